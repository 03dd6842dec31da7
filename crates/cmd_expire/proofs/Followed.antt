-- A backup with an expiry after it is one command of the log.
use Rattle.std.proofs.Common.{◌≡◌, List, [], ◌∷◌, ◌++◌, Some, None, refl, ap, ◌∙◌, sym, subst, append_assoc, Bool, true, false}
use Rattle.std.specs.Prelude.{IsSome}
use Rattle.base_devices.specs.Content.{Content}
use Rattle.base_devices.specs.Moments.{View}
use Rattle.base_model.specs.Text.{Text}
use Rattle.base_model.specs.Repository.{Backup, Stanza, Repository, IsSound}
use Rattle.base_model.specs.Represents.{Represents}
use Rattle.base_model.specs.Steps.{Step, Move, One, Turn, Retention, Command, MakeBackup, Expire, AddBackup, IsPartOf, after, after_all, all_of, changed, expiry_moves, turn_moves, steps_of}
use Rattle.base_model.specs.Log.{Done, IsDone, Leads, Reaches}
use Rattle.base_model.specs.Now.{NowRepresents, NowEffect}
use Rattle.base_model.specs.Steady.{IsSteady}
use Rattle.base_model.proofs.PushDone.{after_some}
use Rattle.base_model.proofs.Waited.{all_following, part_prefix, part_following, after_following, all_after}
use Rattle.cmd_types.specs.declared.stages.plan.SyncScope.TheVariants.{Whole}
use Rattle.cmd_types.specs.DisksEffect.{Reached, to_end, turned_back, stopped, OnAll, IsPart, DoesPart, DoesWhole, RunsPart, DisksEffect, SpoolEffect}
use Rattle.expire_make.proofs.Receipts.{expiry_spool}
use Rattle.expire_make.proofs.Ways.{moves_on, moves_as}
use Rattle.cmd_expire.specs.FollowUp.{StaysSound}

module _ (ts : List Turn) (b : Backup) (k : Retention) where
  abbrev pub first : Command
  first = MakeBackup ts b None

  abbrev pub both : Command
  both = MakeBackup ts b (Some k)

  -- what the backup leaves
  abbrev left : Repository → Repository
  left r = after r (all_of (steps_of first r))

  made : (s : Stanza) → left (Some s) ≡ Some (changed (AddBackup b) (after_all s (all_of (turn_moves s ts))))
  made s = ap (after (Some s)) (all_following (turn_moves s ts) (One (AddBackup b) ∷ []))
      ∙ after_some s (all_of (turn_moves s ts) ++ AddBackup b ∷ [])
      ∙ ap (λ (x : Stanza). Some x) (all_after s (all_of (turn_moves s ts)) (AddBackup b ∷ []))

  -- ---- its moves are those of the backup, and after them those of the expiry

  both_moves : (r : Repository) → steps_of both r ≡ steps_of first r ++ steps_of (Expire k) (left r)
  both_moves None = refl
  both_moves (Some s) =
      let m = changed (AddBackup b) (after_all s (all_of (turn_moves s ts))) in
      sym (append_assoc (turn_moves s ts) (One (AddBackup b) ∷ []) (expiry_moves k m))
      ∙ ap (λ (r : Repository). (turn_moves s ts ++ One (AddBackup b) ∷ []) ++ steps_of (Expire k) r) (sym (made s))

  all_both : (r : Repository) → all_of (steps_of both r) ≡ all_of (steps_of first r) ++ all_of (steps_of (Expire k) (left r))
  all_both r = ap all_of (both_moves r) ∙ all_following (steps_of first r) (steps_of (Expire k) (left r))

  after_both : (r : Repository) → after r (all_of (steps_of both r)) ≡ after (left r) (all_of (steps_of (Expire k) (left r)))
  after_both r = ap (after r) (all_both r) ∙ after_following r (all_of (steps_of first r)) (all_of (steps_of (Expire k) (left r)))

  -- a part of the backup is a part of it
  prefix : (r : Repository) (done : List Step) → IsPartOf done (steps_of first r) → IsPartOf done (steps_of both r)
  prefix r done p = subst (λ (m : List Move). IsPartOf done m) (sym (both_moves r)) (part_prefix done (steps_of first r) (steps_of (Expire k) (left r)) p)

  -- and so is a part of the expiry after all of the backup
  back : (r : Repository) (done : List Step) → IsPartOf done (steps_of (Expire k) (left r)) → IsPartOf (all_of (steps_of first r) ++ done) (steps_of both r)
  back r done p = subst (λ (m : List Move). IsPartOf (all_of (steps_of first r) ++ done) m) (sym (both_moves r)) (part_following (steps_of first r) (steps_of (Expire k) (left r)) done p)

  done_back : (whole : Bool) (r : Repository) (done : List Step) → IsDone whole done (steps_of (Expire k) (left r)) → IsDone whole (all_of (steps_of first r) ++ done) (steps_of both r)
  done_back true r done is = ap (λ (l : List Step). all_of (steps_of first r) ++ l) is ∙ sym (all_both r)
  done_back false r done is = back r done is

  after_back : (r : Repository) (done : List Step) → after r (all_of (steps_of first r) ++ done) ≡ after (left r) done
  after_back r done = after_following r (all_of (steps_of first r)) done

  -- ---- a disk changes by it

  module _ (stanza : Text) where
    prefix_is : (r : Repository) (g : Content) → IsPart stanza first r g → IsPart stanza both r g
    prefix_is r g p = (p.0, prefix r p.0 p.1, p.2, p.3)

    back_is : (r : Repository) (g : Content) → IsPart stanza (Expire k) (left r) g → IsPart stanza both r g
    back_is r g p = (
      all_of (steps_of first r) ++ p.0,
      back r p.0 p.1,
      subst (λ (x : Repository). Represents stanza g x) (sym (after_back r p.0)) p.2,
      subst IsSound (sym (after_back r p.0)) p.3,
    )

    module _ (a m : View) where
      -- a part of the backup alone
      prefix_does : DoesPart Whole stanza first a m → DoesPart Whole stanza both a m
      prefix_does h = record {
        part = record { known = h.part.known; does = λ r from some now. let x = h.part.does r tt some now in (x.0, prefix r x.0 x.1, x.2) };
        goes = λ r some steady sound. moves_as stanza (IsPart stanza first r) (IsPart stanza both r) a m (prefix_is r) (h.goes r some steady sound);
      }

      module _ (d : View) (part : DoesPart Whole stanza first a m) (whole : DoesWhole Whole stanza first a m) (sound : StaysSound stanza first a.now) where
        -- what the backup left
        represents_there : (r : Repository) → IsSome a.now → NowRepresents stanza r a.now → NowRepresents stanza (left r) m.now
        represents_there r some now = let x = whole.done.does r tt some now in subst (λ (l : List Step). NowRepresents stanza (after r l) m.now) x.1 x.2

        now_back : (all : Bool) → NowEffect stanza (Expire k) all m.now d.now → NowEffect stanza both all a.now d.now
        now_back all h = record {
          known = λ some. h.known (whole.done.known some);
          does = λ r from some now.
              let x = h.does (left r) (sound r some now from) (whole.done.known some) (represents_there r some now) in (
                all_of (steps_of first r) ++ x.0,
                done_back all r x.0 x.1,
                subst (λ (y : Repository). NowRepresents stanza y d.now) (sym (after_back r x.0)) x.2,
              );
        }

        back_does : DoesPart Whole stanza (Expire k) m d → DoesPart Whole stanza both a d
        back_does h = record {
          part = now_back false h.part;
          goes = λ r some steady sound_r.
              let e = whole.ends r some steady sound_r in
              moves_on stanza (IsPart stanza both r) a m d
              (moves_as stanza (IsPart stanza first r) (IsPart stanza both r) a m (prefix_is r) (part.goes r some steady sound_r))
              (moves_as stanza (IsPart stanza (Expire k) (left r)) (IsPart stanza both r) m d (back_is r) (h.goes (left r) (whole.done.known some) e.0 e.1));
        }

        back_whole : DoesWhole Whole stanza (Expire k) m d → DoesWhole Whole stanza both a d
        back_whole h = record {
          done = now_back true h.done;
          ends = λ r some steady sound_r.
              let e = whole.ends r some steady sound_r in
              let x = h.ends (left r) (whole.done.known some) e.0 e.1 in
              (subst (λ (y : Repository). IsSteady stanza y d) (sym (after_both r)) x.0, subst IsSound (sym (after_both r)) x.1);
        }

    -- ---- and the spool

    abbrev entry : Command → Bool → Done
    entry command whole = record { command = command; acknowledged = whole }

    prefix_reaches : (q : Repository) (log : List Done) (r : Repository) → Reaches q (entry first false ∷ log) r → Reaches q (entry both false ∷ log) r
    prefix_reaches q log r h = (h.0, h.1, (h.2.0, h.2.1, prefix h.0 h.2.0 h.2.2))

    back_leads : (whole : Bool) (old mid new : Repository) → Leads (entry first true) old mid → Leads (entry (Expire k) whole) mid new → Leads (entry both whole) old new
    back_leads whole old mid new l h =
        let is : mid ≡ left old = l.1 ∙ ap (after old) l.2 in
        let x = subst (λ (y : Repository). Leads (entry (Expire k) whole) y new) is h in
        (all_of (steps_of first old) ++ x.0, x.1 ∙ sym (after_back old x.0), done_back whole old x.0 x.2)

    back_reaches : (whole : Bool) (q : Repository) (log : List Done) (r : Repository) → Reaches q (entry (Expire k) whole ∷ entry first true ∷ log) r → Reaches q (entry both whole ∷ log) r
    back_reaches whole q log r h = (h.1.0, h.1.1, back_leads whole h.1.0 h.0 r h.1.2 h.2)

    module _ (repo spool new_spool : View) where
      prefix_spool : SpoolEffect Whole stanza first false repo spool new_spool → SpoolEffect Whole stanza both false repo spool new_spool
      prefix_spool goes = record {
        known = goes.known;
        past = goes.past;
        keeps = λ q log some known begun k. let x = goes.keeps q log some known begun k in record {
          fixed = x.fixed;
          receipts = λ f leaves name sum fits has. let y = x.receipts f leaves name sum fits has in (y.0, prefix_reaches q log y.0 y.1, y.2);
        };
        between = λ q log some known begun k t f lo hi leaves name sum fits has. let y = goes.between q log some known begun k t f lo hi leaves name sum fits has in (y.0, prefix_reaches q log y.0 y.1, y.2);
      }

      back_spool : (whole : Bool) → SpoolEffect Whole stanza first true repo spool new_spool → SpoolEffect Whole stanza both whole repo spool new_spool
      back_spool whole goes = record {
        known = goes.known;
        past = goes.past;
        keeps = λ q log some known begun receipts. let x = expiry_spool stanza k whole q (entry first true ∷ log) new_spool (goes.keeps q log some known begun receipts) in record {
          fixed = x.fixed;
          receipts = λ f leaves name sum fits has. let y = x.receipts f leaves name sum fits has in (y.0, back_reaches whole q log y.0 y.1, y.2);
        };
        between = λ q log some known begun k t f lo hi leaves name sum fits has. let y = goes.between q log some known begun k t f lo hi leaves name sum fits has in (y.0, prefix_reaches q log y.0 y.1, y.2);
      }

    -- ---- both disks

    module _ (a s m t : View) where
      prefix_part : RunsPart Whole stanza first a s m t → RunsPart Whole stanza both a s m t
      prefix_part h = record { does = prefix_does a m h.does; marks = prefix_spool a s t h.marks }

      -- a backup that reached no end
      pub stopped_runs : (reached : Reached) → ¬ (reached ≡ to_end) → DisksEffect Whole stanza (MakeBackup ts b None) reached a s m t → DisksEffect Whole stanza (MakeBackup ts b (Some k)) reached a s m t
      stopped_runs to_end not h = absurd (not refl)
      stopped_runs turned_back not h = record { part = prefix_part h.part; whole = tt; turned = h.turned }
      stopped_runs stopped not h = record { part = prefix_part h.part; whole = tt; turned = tt }

      -- one that reached its end, and the expiry after it
      module _ (h : DisksEffect Whole stanza (MakeBackup ts b None) to_end a s m t) (sound : StaysSound stanza (MakeBackup ts b None) a.now) (d : View) where
        following_part : DoesPart Whole stanza (Expire k) m d → RunsPart Whole stanza both a s d t
        following_part part = record { does = back_does a m d h.part.does h.whole.does sound part; marks = back_spool a s t false h.whole.marks }

        pub followed_runs : (reached : Reached) → ¬ (reached ≡ turned_back) → DoesPart Whole stanza (Expire k) m d → OnAll reached (DoesWhole Whole stanza (Expire k) m d) → DisksEffect Whole stanza (MakeBackup ts b (Some k)) reached a s d t
        followed_runs to_end not part all = record { part = following_part part; whole = record { does = back_whole a m d h.part.does h.whole.does sound all; marks = back_spool a s t true h.whole.marks }; turned = tt }
        followed_runs turned_back not part all = absurd (not refl)
        followed_runs stopped not part all = record { part = following_part part; whole = tt; turned = tt }
