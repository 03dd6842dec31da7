-- Two commands, one after the other, are one command: a part of the first is a part of both, and so are all of the
-- first and a part of the second.
use Rattle.std.proofs.Common.{◌≡◌, List, ◌++◌, ap, ◌∙◌, sym, subst, Bool, true, false, Option, Some, None}
use Rattle.base_devices.specs.Content.{Content}
use Rattle.base_devices.specs.Moments.{View}
use Rattle.base_model.specs.Text.{Text}
use Rattle.base_model.specs.Repository.{Repository, IsSound}
use Rattle.base_model.specs.Represents.{Represents}
use Rattle.base_model.specs.Steps.{Step, Command, StanzaCreate, StanzaUpgrade, ArchivePush, ArchivePushAsync, ArchivePushDrain, MakeBackup, Expire, Then, Reading, IsPartOf, after, all_of, steps_of}
use Rattle.base_model.specs.Log.{IsDone}
use Rattle.base_model.specs.Now.{NowRepresents, NowEffect, BeginsFrom}
use Rattle.base_model.specs.Steady.{IsSteady}
use Rattle.base_model.proofs.Waited.{all_following, part_prefix, part_following, after_following}
use Rattle.cmd_types.specs.declared.stages.plan.SyncScope.TheVariants.{Whole}
use Rattle.cmd_types.specs.DisksEffect.{IsPart, DoesPart, DoesWhole}
use Rattle.expire_make.proofs.Ways.{moves_on, moves_as}
use Rattle.cmd_rehearse.specs.Advancing.{StaysSound}

-- each command begins from a sound repository
pub begins_sound : (command : Command) (r : Repository) → IsSound r → BeginsFrom command r
begins_sound (StanzaCreate c) r sound = tt
begins_sound (StanzaUpgrade c) r sound = tt
begins_sound (ArchivePush n) r sound = tt
begins_sound (ArchivePushAsync turns) r sound = tt
begins_sound (ArchivePushDrain ns) r sound = tt
begins_sound (MakeBackup turns b None) r sound = tt
begins_sound (MakeBackup turns b (Some kept)) r sound = sound
begins_sound (Expire kept) r sound = sound
begins_sound (Then first second) r sound = sound
begins_sound Reading r sound = tt

module _ (first second : Command) where
  -- what the first leaves
  abbrev left : Repository → Repository
  left r = after r (all_of (steps_of first r))

  all_both : (r : Repository) → all_of (steps_of (Then first second) r) ≡ all_of (steps_of first r) ++ all_of (steps_of second (left r))
  all_both r = all_following (steps_of first r) (steps_of second (left r))

  after_both : (r : Repository) → after r (all_of (steps_of (Then first second) r)) ≡ after (left r) (all_of (steps_of second (left r)))
  after_both r = ap (after r) (all_both r) ∙ after_following r (all_of (steps_of first r)) (all_of (steps_of second (left r)))

  prefix : (r : Repository) (done : List Step) → IsPartOf done (steps_of first r) → IsPartOf done (steps_of (Then first second) r)
  prefix r done p = part_prefix done (steps_of first r) (steps_of second (left r)) p

  done_back : (whole : Bool) (r : Repository) (done : List Step) → IsDone whole done (steps_of second (left r)) → IsDone whole (all_of (steps_of first r) ++ done) (steps_of (Then first second) r)
  done_back true r done is = ap (λ (l : List Step). all_of (steps_of first r) ++ l) is ∙ sym (all_both r)
  done_back false r done is = part_following (steps_of first r) (steps_of second (left r)) done is

  after_back : (r : Repository) (done : List Step) → after r (all_of (steps_of first r) ++ done) ≡ after (left r) done
  after_back r done = after_following r (all_of (steps_of first r)) done

  module _ (stanza : Text) where
    prefix_is : (r : Repository) (g : Content) → IsPart stanza first r g → IsPart stanza (Then first second) r g
    prefix_is r g p = (p.0, prefix r p.0 p.1, p.2, p.3)

    back_is : (r : Repository) (g : Content) → IsPart stanza second (left r) g → IsPart stanza (Then first second) r g
    back_is r g p = (
      all_of (steps_of first r) ++ p.0,
      done_back false r p.0 p.1,
      subst (λ (x : Repository). Represents stanza g x) (sym (after_back r p.0)) p.2,
      subst IsSound (sym (after_back r p.0)) p.3,
    )

    -- a sound repository stays sound
    pub sound_both : (a m : Option Content) → NowEffect stanza first true a m → StaysSound stanza first a → StaysSound stanza second m → StaysSound stanza (Then first second) a
    sound_both a m done sound sound_too r some now is =
        let x = done.does r (begins_sound first r is) some now in
        let there : NowRepresents stanza (left r) m = subst (λ (l : List Step). NowRepresents stanza (after r l) m) x.1 x.2 in
        subst IsSound (sym (after_both r)) (sound_too (left r) (done.known some) there (sound r some now is))

    -- all of the first, and this much of the second
    pub now_both : (a m d : Option Content) → NowEffect stanza first true a m → StaysSound stanza first a → (all : Bool) → NowEffect stanza second all m d → NowEffect stanza (Then first second) all a d
    now_both a m d done sound all h = record {
      known = λ some. h.known (done.known some);
      does = λ r from some now.
          let x = done.does r (begins_sound first r from) some now in
          let there : NowRepresents stanza (left r) m = subst (λ (l : List Step). NowRepresents stanza (after r l) m) x.1 x.2 in
          let y = h.does (left r) (begins_sound second (left r) (sound r some now from)) (done.known some) there in (
            all_of (steps_of first r) ++ y.0,
            done_back all r y.0 y.1,
            subst (λ (z : Repository). NowRepresents stanza z d) (sym (after_back r y.0)) y.2,
          );
    }

    module _ (a m : View) where
      -- a part of the first alone
      pub prefix_does : DoesPart Whole stanza first a m → DoesPart Whole stanza (Then first second) a m
      prefix_does h = record {
        part = record { known = h.part.known; does = λ r from some now. let x = h.part.does r (begins_sound first r from) some now in (x.0, prefix r x.0 x.1, x.2) };
        goes = λ r some steady sound. moves_as stanza (IsPart stanza first r) (IsPart stanza (Then first second) r) a m (prefix_is r) (h.goes r some steady sound);
      }

      module _ (d : View) (part : DoesPart Whole stanza first a m) (whole : DoesWhole Whole stanza first a m) (sound : StaysSound stanza first a.now) where
        now_back : (all : Bool) → NowEffect stanza second all m.now d.now → NowEffect stanza (Then first second) all a.now d.now
        now_back = now_both a.now m.now d.now whole.done sound

        -- all of the first, and a part of the second
        pub back_does : DoesPart Whole stanza second m d → DoesPart Whole stanza (Then first second) a d
        back_does h = record {
          part = now_back false h.part;
          goes = λ r some steady sound_r.
              let e = whole.ends r some steady sound_r in
              moves_on stanza (IsPart stanza (Then first second) r) a m d
              (moves_as stanza (IsPart stanza first r) (IsPart stanza (Then first second) r) a m (prefix_is r) (part.goes r some steady sound_r))
              (moves_as stanza (IsPart stanza second (left r)) (IsPart stanza (Then first second) r) m d (back_is r) (h.goes (left r) (whole.done.known some) e.0 e.1));
        }

        -- all of both
        pub back_whole : DoesWhole Whole stanza second m d → DoesWhole Whole stanza (Then first second) a d
        back_whole h = record {
          done = now_back true h.done;
          ends = λ r some steady sound_r.
              let e = whole.ends r some steady sound_r in
              let x = h.ends (left r) (whole.done.known some) e.0 e.1 in
              (subst (λ (y : Repository). IsSteady stanza y d) (sym (after_both r)) x.0, subst IsSound (sym (after_both r)) x.1);
        }
