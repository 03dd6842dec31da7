-- A backup that is listed after calls that left the stanza's list.
use Rattle.std.proofs.Common.{◌≡◌, ◌⊎◌, ⊎_elim, inl, inr, ℕ, Bool, true, false, List, Option, Result, Ok, Err, refl, sym, ◌∙◌, subst, arith}
use Rattle.std.specs.Prelude.{IsSome}
use Rattle.base_devices.specs.Content.{Name, Content}
use Rattle.base_devices.specs.Moments.{View, is_unsynced}
use Rattle.base_devices.specs.Crash.{IsTemporary, Ends, NowChanges}
use Rattle.base_devices.specs.Links.{LinkState}
use Rattle.base_devices.proofs.Nows.{known_as}
use Rattle.base_model.specs.Names.{copy_of}
use Rattle.backup_sink.specs.Way.{Way, MayUnsync, IsBeside}
use Rattle.backup_sink.proofs.Ways.{way_on}
use Rattle.backup_make.specs.declared.draft.Draft.{Draft}
use Rattle.backup_make.specs.declared.fault.MakeFault.{MakeFault}
use Rattle.backup_make.specs.Draft.{pair_of, main_of, is_own_of}
use Rattle.backup_make.specs.Made.{AreApart, HasCopies, IsSyncedAt, LeavesList, ListsIt, MakesOf, MayBeListed, OutcomeOf, StopsBy}
use Rattle.backup_make.specs.Online.{Online}

module _ (draft : Draft) (apart : AreApart (is_own_of draft) (pair_of draft) (main_of draft)) (a b c : View) (first : LeavesList draft a b) where
  abbrev own : Name → Bool
  own = is_own_of draft

  abbrev Beside : Content → Content → Type 0
  Beside f g = IsBeside (is_own_of draft) (pair_of draft) f g

  -- besides is transitive
  beside_on : (f g h : Content) → Beside f g → Beside g h → Beside f h
  beside_on f g h x y = record { others = λ n out lasts off off_copy. y.others n out lasts off off_copy ∙ x.others n out lasts off off_copy }

  not_may : (n : Name) → own n ≡ false → ¬ IsTemporary n → ¬ MayUnsync own n
  not_may n out lasts m = ⊎_elim (λ (is : own n ≡ true). let u : ◌≡◌ {A = Bool} true false = sym is ∙ out in cc) lasts m

  -- no member became unsynced
  still_synced : IsSyncedAt (pair_of draft) (main_of draft) a → IsSyncedAt (pair_of draft) (main_of draft) b
  still_synced synced = record {
    manifest = by (pair_of draft) apart.pair_out apart.pair_lasts synced.manifest;
    manifest_copy = by (copy_of (pair_of draft)) apart.copy_out apart.copy_lasts synced.manifest_copy;
    info = by (main_of draft) apart.main_out apart.main_lasts synced.info;
    info_copy = by (copy_of (main_of draft)) apart.main_copy_out apart.main_copy_lasts synced.info_copy;
  }
    where
      by : (n : Name) → own n ≡ false → ¬ IsTemporary n → is_unsynced a n ≡ false → is_unsynced b n ≡ false
      by n out lasts h = (first.way synced).synced b.moment n (first.way synced).later (omega arith) (not_may n out lasts) h

  now_on : (S T : Content → Content → Type 0) → ((f g h : Content) → Beside f g → S g h → T f h) → NowChanges S b.now c.now → NowChanges T a.now c.now
  now_on S T both x = record {
    known = λ some. x.known (first.now.known some);
    goes = λ f h is_f is_h. let g = known_as b.now (first.now.known (subst (λ (o : Option Content). IsSome o) (sym is_f) refl)) in both f g.0 h (first.now.goes f g.0 is_f g.1) (x.goes g.0 h g.1 is_h);
  }

  way_after : (S T : Content → Content → Type 0) → ((f g : Content) → Beside f g → T f g) → ((f g h : Content) → Beside f g → S g h → T f h) → IsSyncedAt (pair_of draft) (main_of draft) a → Way (MayUnsync (is_own_of draft)) S b c → Way (MayUnsync (is_own_of draft)) T a c
  way_after S T one both synced x = way_on (MayUnsync (is_own_of draft)) Beside S T a b c (first.way synced) x one (λ known f g h leaves y z. both f g h y z)

  ends_after : (S : Content → Content → Type 0) → ((f g h : Content) → Beside f g → S g h → S f h) → IsSyncedAt (pair_of draft) (main_of draft) a → Ends S b c → Ends S a c
  ends_after S both synced x = record {
    comes = λ known h leaves.
        let y = x.comes ((first.way synced).known known) h leaves in
        let z = (first.way synced).comes known b.moment y.0 (first.way synced).later (omega arith) y.1 in
        (z.0, z.1, both z.0 y.0 h z.2 y.2);
  }

  pub leaves_after : LeavesList draft b c → LeavesList draft a c
  leaves_after x = record { now = now_on Beside Beside beside_on x.now; way = λ synced. way_after Beside Beside (λ f g s. s) beside_on synced (x.way (still_synced synced)) }

  module _ (o : Option Online) (links : List LinkState) (whole : Bool) (x : MakesOf draft o links whole b c) where
    abbrev Listed : Content → Content → Type 0
    Listed f g = ListsIt draft o x.manifest x.list x.names x.kept x.stop f g

    listed_on : (f g h : Content) → Beside f g → Listed g h → Listed f h
    listed_on f g h s y = record {
      info_is = y.info_is;
      manifest_is = y.manifest_is;
      placed = y.placed;
      others = λ n out lasts off off_copy off_main off_main_copy. y.others n out lasts off off_copy off_main off_main_copy ∙ s.others n out lasts off off_copy;
    }

    either_on : (f g h : Content) → Beside f g → Beside g h ⊎ Listed g h → Beside f h ⊎ Listed f h
    either_on f g h s y = ⊎_elim (λ z. inl (beside_on f g h s z)) (λ z. inr (listed_on f g h s z)) y

    abbrev Copied : Content → Content → Type 0
    Copied f g = HasCopies (pair_of draft) (main_of draft) x.manifest x.list g

    pub makes_after : (y : MakesOf draft o links whole a c) × (y.stop ≡ x.stop)
    makes_after = (
      record {
        names = x.names;
        names_are = x.names_are;
        ends = x.ends;
        kept = x.kept;
        received = x.received;
        payload = x.payload;
        are = x.are;
        come = x.come;
        got = λ some. x.got (first.now.known some);
        stop = x.stop;
        manifest = x.manifest;
        manifest_is = x.manifest_is;
        manifest_valid = x.manifest_valid;
        control = x.control;
        list = x.list;
        listed = x.listed;
        list_valid = x.list_valid;
        now = now_on (λ f g. Beside f g ⊎ Listed f g) (λ f g. Beside f g ⊎ Listed f g) either_on x.now;
        whole_now = λ is. now_on Listed Listed listed_on (x.whole_now is);
        synced = λ synced some. x.synced (still_synced synced) (first.now.known some);
        way = λ synced. way_after (λ f g. Beside f g ⊎ Listed f g) (λ f g. Beside f g ⊎ Listed f g) (λ f g s. inl s) either_on synced (x.way (still_synced synced));
        whole_way = λ synced is. ends_after Listed listed_on synced (x.whole_way (still_synced synced) is);
        copies_now = λ is. now_on Copied Copied (λ f g h s y. y) (x.copies_now is);
        copies = λ synced is. ends_after Copied (λ f g h s y. y) synced (x.copies (still_synced synced) is);
      },
      refl,
    )

  -- the result of the backup since then
  pub outcome_after : (P : ℕ → Type 0) (r : Result (Unit {0}) MakeFault) (o : Option Online) (links : List LinkState) → (x : OutcomeOf r draft o links b c) × StopsBy P r draft o links b c x
      → (y : OutcomeOf r draft o links a c) × StopsBy P r draft o links a c y
  outcome_after P (Ok u) o links (x, stops) = let y = makes_after o links true x in (y.0, subst P (sym y.1) stops)
  outcome_after P (Err e) o links (x, stops) = (⊎_elim (λ (y : LeavesList draft b c). inl (leaves_after y)) (λ (y : MayBeListed e × MakesOf draft o links false b c). inr (y.0, (makes_after o links false y.1).0)) x, tt)
