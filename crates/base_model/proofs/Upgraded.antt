-- A further cluster of a stanza: it leaves the stanza sound, and a log continues by it.
use Rattle.std.proofs.Common.{◌≡◌, ◌≢◌, ◌⊎◌, ⊎_elim, inl, inr, ℕ, zero, suc, ◌+◌, ◌-◌, ◌≤◌, List, [], ◌∷◌, ◌++◌, map, length, Option, Some, None, refl, ap, ◌∙◌, sym, subst, arith, Bool, true, false, length-append}
use Rattle.std.specs.Prelude.{IfSome, IsSome, if◌then◌else◌, nat_eq, slice_get, ◌&&◌}
use Rattle.std.specs.Option.{option_map_or}
use Rattle.std.proofs.lemmas.Bool.{eq-eqb, false≢true}
use Rattle.base_devices.specs.Content.{Content}
use Rattle.base_devices.specs.Moments.{View}
use Rattle.base_model.specs.declared.clusters.Cluster.{Cluster}
use Rattle.base_model.specs.declared.wal.ArchiveName.{ArchiveName}
use Rattle.base_model.specs.declared.wal.WalPart.{WalPart}
use Rattle.base_model.specs.declared.wal.Segment.{Segment}
use Rattle.base_model.specs.declared.wal.ArchiveName.TheVariants.{Segment as Whole}
use Rattle.base_model.specs.Text.{Text, In}
use Rattle.base_model.specs.Fields.{at_number}
use Rattle.base_model.specs.InfoFiles.{AreFrom}
use Rattle.base_model.specs.Represents.{Represents}
use Rattle.base_model.specs.Repository.{Stanza, Repository, IsSound, Backup, Archived, id_of, current_number, Differ, NeighboursDiffer, IsWithinSpan, HasItsSegments, IsSoundBackup, AreSound, IsSoundStanza}
use Rattle.base_model.specs.Steps.{Step, Move, One, Upgrade, StanzaUpgrade, IsPartOf, changed, after, all_of, steps_of, is_same_cluster, is_current, next_cluster, upgrade_moves, upgraded}
use Rattle.base_model.specs.Log.{Done, KeepsSpool, Reaches, IsDone, IsDrained}
use Rattle.base_model.specs.Now.{NowRepresents, NowEffect}
use Rattle.base_model.proofs.Done.{part_none}
use Rattle.base_model.proofs.Pushed.{in_left, in_either}
use Rattle.base_model.proofs.Logged.{KeepsSound, IsPart, one_part, no_step}

-- ---- two clusters that aren't the same

differ_of : (a b x y : ℕ) → (nat_eq a b && nat_eq x y) ≡ false → (b ≢ a) ⊎ (y ≢ x)
differ_of a b x y e = go (nat_eq a b) refl
  where
    go : (q : Bool) → nat_eq a b ≡ q → (b ≢ a) ⊎ (y ≢ x)
    go false is = inl (λ same. false≢true (sym is ∙ eq-eqb a b (sym same)))
    go true is =
        let second : nat_eq x y ≡ false = sym (ap (λ (q : Bool). q && nat_eq x y) is) ∙ e in
        inr (λ same. false≢true (sym second ∙ eq-eqb x y (sym same)))

-- ---- the history

-- the next number follows them
pub from_end : {X : Type 0} (id : X → ℕ) (xs : List X) (x : X) (m : ℕ) → AreFrom m (map id xs) → id x ≡ m + length xs → AreFrom m (map id (xs ++ x ∷ []))
from_end id [] x m h e = (omega (arith, e), tt)
from_end id (y ∷ ys) x m h e = (h.0, from_end id ys x (m + 1) h.1 (omega (arith, e)))

neighbours_end : (xs : List Cluster) (c : Cluster) → NeighboursDiffer xs → ((d : Cluster) → at_number (length xs) xs ≡ Some d → Differ d c) → NeighboursDiffer (xs ++ c ∷ [])
neighbours_end [] c h last = tt
neighbours_end (x ∷ []) c h last = (last x refl, tt)
neighbours_end (x ∷ y ∷ ys) c h last = (h.0, neighbours_end (y ∷ ys) c h.1 (λ d at. last d (behind d at)))
  where
    behind : (d : Cluster) → at_number (length (y ∷ ys)) (y ∷ ys) ≡ Some d → at_number (length (x ∷ y ∷ ys)) (x ∷ y ∷ ys) ≡ Some d
    behind d at =
        let n : length (x ∷ y ∷ ys) - 1 ≡ suc (length (y ∷ ys) - 1) = omega arith in
        subst (λ (k : ℕ). slice_get (x ∷ y ∷ ys) k ≡ Some d) (sym n) at

-- the numbers are at most the last one
at_most : (m : ℕ) (xs : List Cluster) (c : Cluster) → AreFrom m (map (λ (x : Cluster). x.id) xs) → In c xs → c.id ≤ m + length xs - 1
at_most m [] c h at = absurd at
at_most m (x ∷ xs) c h (inl same) = omega (arith, ap (λ (y : Cluster). y.id) same, h.0)
at_most m (x ∷ xs) c h (inr at) = let le = at_most (m + 1) xs c h.1 at in omega (arith, le)

module _ (c : Cluster) (s : Stanza) (other : is_current c s ≡ false) where
  abbrev added : Cluster
  added = next_cluster c s

  abbrev next : Stanza
  next = changed (Upgrade added) s

  other_than : (d : Cluster) → at_number (length s.history) s.history ≡ Some d → Differ d added
  other_than d at =
      let e : is_same_cluster c d ≡ false = sym (ap (λ (o : Option Cluster). option_map_or (is_same_cluster c) o false) at) ∙ other in
      differ_of c.system d.system c.version d.version e

  module _ (h : IsSoundStanza s) where
    segments_same : (b : Backup) → ((x : Cluster) × In x s.history × (x.id ≡ b.entry.db)) → (o : Option WalPart) → b.wal ≡ o → HasItsSegments s b → HasItsSegments next b
    segments_same b cluster o is has = go o is
      where
        Q : Stanza → WalPart → Type 0
        Q t w = (segment : Segment) (x : Cluster) → In x t.history → x.id ≡ b.entry.db → IsWithinSpan w.size.0 w.span segment → (a : Archived) × In a t.archived × (a.id ≡ id_of x) × (a.name ≡ Whole segment)

        go : (o : Option WalPart) → b.wal ≡ o → HasItsSegments next b
        go None none = subst (λ (p : Option WalPart). IfSome p (λ w. (segment : Segment) (x : Cluster) → In x next.history → x.id ≡ b.entry.db → IsWithinSpan w.size.0 w.span segment → (a : Archived) × In a next.archived × (a.id ≡ id_of x) × (a.name ≡ Whole segment))) (sym none) tt
        go (Some w) some = subst (λ (p : Option WalPart). IfSome p (λ w. (segment : Segment) (x : Cluster) → In x next.history → x.id ≡ b.entry.db → IsWithinSpan w.size.0 w.span segment → (a : Archived) × In a next.archived × (a.id ≡ id_of x) × (a.name ≡ Whole segment))) (sym some)
            (λ segment x at number within. by segment x number within (in_either x added s.history at))
          where
            old : (segment : Segment) (x : Cluster) → In x s.history → x.id ≡ b.entry.db → IsWithinSpan w.size.0 w.span segment → (a : Archived) × In a s.archived × (a.id ≡ id_of x) × (a.name ≡ Whole segment)
            old = subst (λ (p : Option WalPart). IfSome p (λ w. (segment : Segment) (x : Cluster) → In x s.history → x.id ≡ b.entry.db → IsWithinSpan w.size.0 w.span segment → (a : Archived) × In a s.archived × (a.id ≡ id_of x) × (a.name ≡ Whole segment))) some has

            by : (segment : Segment) (x : Cluster) → x.id ≡ b.entry.db → IsWithinSpan w.size.0 w.span segment → In x s.history ⊎ (x ≡ added) → (a : Archived) × In a s.archived × (a.id ≡ id_of x) × (a.name ≡ Whole segment)
            by segment x number within (inl at) = old segment x at number within
            by segment x number within (inr same) =
                let le = at_most 1 s.history cluster.0 h.numbers cluster.1 in
                absurd (omega (arith, le, cluster.2, number, ap (λ (y : Cluster). y.id) same))

    backups_same : (earlier bs : List Backup) → AreSound s earlier bs → AreSound next earlier bs
    backups_same earlier [] are = tt
    backups_same earlier (b ∷ bs) are = (
      record {
        cluster = (are.0.cluster.0, in_left are.0.cluster.0 s.history (added ∷ []) are.0.cluster.1, are.0.cluster.2);
        span = are.0.span;
        prior = are.0.prior;
        segments = segments_same b are.0.cluster b.wal refl are.0.segments;
      },
      backups_same (earlier ++ b ∷ []) bs are.1,
    )

    pub next_sound : IsSoundStanza next
    next_sound = record {
      some = omega (arith, length-append s.history (added ∷ []));
      numbers = from_end (λ (x : Cluster). x.id) s.history added 1 h.numbers (omega arith);
      neighbours = neighbours_end s.history added h.neighbours other_than;
      ids = λ a at. let x = h.ids a at in (x.0, in_left x.0 s.history (added ∷ []) x.1, x.2);
      apart = h.apart;
      backups = backups_same [] s.backups h.backups;
    }

-- ---- the command

-- what it does with a stanza, by whether its current cluster is this one
abbrev moves_by : Cluster → Stanza → Bool → List Move
moves_by c s q = if q then [] else One (Upgrade (next_cluster c s)) ∷ []

module _ (c : Cluster) (s : Stanza) where
  abbrev upgrade : Step
  upgrade = Upgrade (next_cluster c s)

  by_current : (P : List Move → Type 0) → (is_current c s ≡ true → P []) → (is_current c s ≡ false → P (One upgrade ∷ [])) → P (upgrade_moves c s)
  by_current P same other = go (is_current c s) refl
    where
      go : (q : Bool) → is_current c s ≡ q → P (moves_by c s (is_current c s))
      go true is = subst (λ (q : Bool). P (moves_by c s q)) (sym is) (same is)
      go false is = subst (λ (q : Bool). P (moves_by c s q)) (sym is) (other is)

  sound_after : IsSoundStanza s → (whole : Bool) (done : List Step) → IsDone whole done (upgrade_moves c s) → IsSound (after (Some s) done)
  sound_after sound whole done = by_current (λ (m : List Move). IsDone whole done m → IsSound (after (Some s) done)) (λ same. none whole) (λ other. one other whole)
    where
      added : is_current c s ≡ false → done ≡ upgrade ∷ [] → IsSound (after (Some s) done)
      added other is = subst (λ (d : List Step). IsSound (after (Some s) d)) (sym is) (next_sound c s other sound)

      none : (w : Bool) → IsDone w done [] → IsSound (after (Some s) done)
      none true is = no_step (Some s) done sound is
      none false is = no_step (Some s) done sound is

      one : is_current c s ≡ false → (w : Bool) → IsDone w done (One upgrade ∷ []) → IsSound (after (Some s) done)
      one other true is = added other is
      one other false is = ⊎_elim (no_step (Some s) done sound) (added other) (one_part upgrade done is)

  -- nothing of it, or all
  pub none_or_all : (P : Repository → Type 0) → P (Some s) ⊎ P (upgraded c (Some s)) → (done : List Step) × IsPartOf done (upgrade_moves c s) × P (after (Some s) done)
  none_or_all P p = ⊎_elim (λ (old : P (Some s)). ([], part_none (upgrade_moves c s), old))
      (λ (new : P (upgraded c (Some s))). (all_of (upgrade_moves c s), by_current (λ (m : List Move). IsPartOf (all_of m) m) (λ same. refl) (λ other. inr ([], refl, refl)), new)) p

pub upgrade_sound : (cluster : Option Cluster) → KeepsSound (StanzaUpgrade cluster)
upgrade_sound cluster None true done sound is = no_step None done sound is
upgrade_sound cluster None false done sound is = no_step None done sound is
upgrade_sound None (Some s) true done sound is = no_step (Some s) done sound is
upgrade_sound None (Some s) false done sound is = no_step (Some s) done sound is
upgrade_sound (Some c) (Some s) whole done sound is = sound_after c s sound whole done is

pub upgrade_part : (stanza : Text) (c : Cluster) (r : Repository) (g : Content) → Represents stanza g r ⊎ Represents stanza g (upgraded c r) → IsPart stanza (StanzaUpgrade (Some c)) r g
upgrade_part stanza c None g p = ([], refl, ⊎_elim (λ h. h) (λ h. h) p)
upgrade_part stanza c (Some s) g p = none_or_all c s (λ (x : Repository). Represents stanza g x) p

-- ---- what a known disk holds

module _ (stanza : Text) (c : Cluster) (old new : Option Content) (known : IsSome old → IsSome new) where
  -- a stanza that may have been upgraded
  pub upgrade_now_part : ((r : Repository) → IsSome old → NowRepresents stanza r old → NowRepresents stanza r new ⊎ NowRepresents stanza (upgraded c r) new) → NowEffect stanza (StanzaUpgrade (Some c)) false old new
  upgrade_now_part part = record { known = known; does = does }
    where
      does : (r : Repository) → Unit {0} → IsSome old → NowRepresents stanza r old → (done : List Step) × IsPartOf done (steps_of (StanzaUpgrade (Some c)) r) × NowRepresents stanza (after r done) new
      does None from some now = ([], refl, ⊎_elim (λ h. h) (λ h. h) (part None some now))
      does (Some s) from some now = none_or_all c s (λ (x : Repository). NowRepresents stanza x new) (part (Some s) some now)

  -- a stanza that was upgraded, or was of this cluster
  pub upgrade_now_whole : ((r : Repository) → IsSome old → NowRepresents stanza r old → NowRepresents stanza (upgraded c r) new) → NowEffect stanza (StanzaUpgrade (Some c)) true old new
  upgrade_now_whole whole = record { known = known; does = λ r from some now. (all_of (steps_of (StanzaUpgrade (Some c)) r), refl, whole r some now) }

-- ---- the spool

-- it stores no file, and removes none
still_drained : (c : Cluster) (s : Stanza) (name : ArchiveName) (sum : Text) → IsDrained (Some s) name sum → IsDrained (upgraded c (Some s)) name sum
still_drained c s name sum drained = by_current c s (λ (m : List Move). IsDrained (after (Some s) (all_of m)) name sum) (λ same. drained) (λ other. drained)

still_reached : (cluster : Option Cluster) (whole : Bool) (q : Repository) (log : List Done) (name : ArchiveName) (sum : Text) (r : Repository) → Reaches q log r → IsDrained r name sum →
    (x : Repository) × Reaches q (record { command = StanzaUpgrade cluster; acknowledged = whole } ∷ log) x × IsDrained x name sum
still_reached cluster whole q log name sum None reached drained = absurd drained
still_reached None true q log name sum (Some s) reached drained = (Some s, (Some s, reached, ([], refl, refl)), drained)
still_reached None false q log name sum (Some s) reached drained = (Some s, (Some s, reached, ([], refl, refl)), drained)
still_reached (Some c) true q log name sum (Some s) reached drained = (upgraded c (Some s), (Some s, reached, (all_of (upgrade_moves c s), refl, refl)), still_drained c s name sum drained)
still_reached (Some c) false q log name sum (Some s) reached drained = (Some s, (Some s, reached, ([], refl, part_none (upgrade_moves c s))), drained)

pub upgrade_spool : (stanza : Text) (cluster : Option Cluster) (whole : Bool) (q : Repository) (log : List Done) (v : View) → KeepsSpool stanza q log v → KeepsSpool stanza q (record { command = StanzaUpgrade cluster; acknowledged = whole } ∷ log) v
upgrade_spool stanza cluster whole q log v keeps = record {
  fixed = keeps.fixed;
  receipts = λ f leaves name sum fits receipt. let x = keeps.receipts f leaves name sum fits receipt in still_reached cluster whole q log name sum x.0 x.1 x.2;
}
