-- archive-push, from what its push did.
use Rattle.std.proofs.Common.{◌≡◌, ⊎_elim, ◌-◌, List, [], ◌∷◌, map, Option, Some, None, refl, ap, ◌∙◌, sym, subst, Bool, true, false}
use Rattle.std.specs.Prelude.{option_map, if◌then◌else◌}
use Rattle.std.specs.Option.{option_map_or}
use Rattle.std.proofs.lemmas.Option.{slice_get-map}
use Rattle.base_devices.specs.Content.{Content}
use Rattle.base_devices.specs.Moments.{View}
use Rattle.base_model.specs.declared.clusters.Cluster.{Cluster}
use Rattle.base_model.specs.declared.clusters.ClusterId.{ClusterId}
use Rattle.base_model.specs.declared.wal.ArchiveName.{ArchiveName}
use Rattle.base_model.specs.Text.{Text}
use Rattle.base_model.specs.Names.{archive_info, copy_of}
use Rattle.base_model.specs.Values.{ArchiveInfo}
use Rattle.base_model.specs.InfoFiles.{IsArchiveText}
use Rattle.base_model.specs.Fields.{at_number}
use Rattle.base_model.specs.Pair.{PairIs, MemberIs}
use Rattle.base_model.specs.Repository.{Archived, Stanza, Repository, id_of, identity_of, current_number}
use Rattle.base_model.specs.Represents.{Represents, archive_value}
use Rattle.base_model.specs.Steps.{Step, Move, One, IsPartOf, ArchivePush, Named, Push, changed, after, after_all, all_of, steps_of, push_of, archived_of, is_archived}
use Rattle.base_model.specs.Log.{IsDone, IsDrained, Reaches, Done, KeepsSpool}
use Rattle.base_model.specs.Now.{NowRepresents}
use Rattle.base_model.specs.Steady.{IsSteady}
use Rattle.base_model.proofs.Done.{part_none}
use Rattle.base_model.proofs.Logged.{IsPart}
use Rattle.base_model.proofs.Segments.{IsPartOfPush}

-- ---- the current cluster

-- what has an archive pair has a stanza
pub stanza_of : (stanza : Text) (f : Content) (v : ArchiveInfo) (r : Repository) → PairIs IsArchiveText f (archive_info stanza) v → Represents stanza f r → (s : Stanza) × (r ≡ Some s)
stanza_of stanza f v (Some s) pair represents = (s, refl)
stanza_of stanza f v None pair represents = absurd (⊎_elim
    (λ (m : MemberIs IsArchiveText f (archive_info stanza) v). off (f (archive_info stanza)) m.0 represents.archive_pair.0 m.1)
    (λ (q : ((w : ArchiveInfo) → ¬ MemberIs IsArchiveText f (archive_info stanza) w) × MemberIs IsArchiveText f (copy_of (archive_info stanza)) v). off (f (copy_of (archive_info stanza))) q.1.0 represents.archive_pair.1 q.1.1) pair)
  where
    off : (o : Option Text) (x : Text) → o ≡ None → o ≡ Some x → ⊥
    off o x none some = let e : ◌≡◌ {A = Option Text} None (Some x) = sym none ∙ some in cc

identity_at : (o : Option Cluster) (i : ClusterId) → option_map identity_of o ≡ Some i → (c : Cluster) × (o ≡ Some c) × (i ≡ identity_of c)
identity_at None i e = cc
identity_at (Some c) i e = (c, refl, cc)

-- the current identity of the archive pair is that of the stanza's current cluster
pub current_of : (s : Stanza) (v : ArchiveInfo) (i : ClusterId) → v ≡ archive_value s → at_number v.current v.history ≡ Some i → (c : Cluster) × (at_number (current_number s) s.history ≡ Some c) × (i ≡ identity_of c)
current_of s v i same at = identity_at (at_number (current_number s) s.history) i
    (sym (slice_get-map identity_of s.history (current_number s - 1)) ∙ sym (ap (λ (w : ArchiveInfo). at_number w.current w.history) same) ∙ at)

-- ---- its steps

pub all_one : (steps : List Step) → all_of (map One steps) ≡ steps
all_one [] = refl
all_one (t ∷ steps) = ap (λ (x : List Step). t ∷ x) (all_one steps)

pub after_some : (s : Stanza) (steps : List Step) → after (Some s) steps ≡ Some (after_all s steps)
after_some s [] = refl
after_some s (t ∷ steps) = after_some (changed t s) steps

module _ (n : Named) (s : Stanza) (c : Cluster) (at : at_number (current_number s) s.history ≡ Some c) where
  pub steps_are : steps_of (ArchivePush n) (Some s) ≡ map One (push_of s (archived_of (id_of c) n))
  steps_are = ap (λ (o : Option Cluster). option_map_or (λ (k : Cluster). map One (push_of s (archived_of (id_of k) n))) o []) at

  whole_is : Some (after_all s (push_of s (archived_of (id_of c) n))) ≡ after (Some s) (all_of (steps_of (ArchivePush n) (Some s)))
  whole_is = sym (ap (λ (moves : List Move). after (Some s) (all_of moves)) steps_are ∙ ap (λ (steps : List Step). after (Some s) steps) (all_one (push_of s (archived_of (id_of c) n))) ∙ after_some s (push_of s (archived_of (id_of c) n)))

  pub push_is_part : (stanza : Text) (g : Content) → IsPartOfPush stanza s (archived_of (id_of c) n) g → IsPart stanza (ArchivePush n) (Some s) g
  push_is_part stanza g p = (p.0, subst (λ (moves : List Move). IsPartOf p.0 moves) (sym steps_are) p.1, p.2)

  pub push_is_whole : (stanza : Text) (d : View) → IsSteady stanza (Some (after_all s (push_of s (archived_of (id_of c) n)))) d → IsSteady stanza (after (Some s) (all_of (steps_of (ArchivePush n) (Some s)))) d
  push_is_whole stanza d steady = subst (λ (r : Repository). IsSteady stanza r d) whole_is steady

  -- what the disk holds after a part of it, and after all of it
  pub now_part : (stanza : Text) (new : Option Content) → (done : List Step) × IsPartOf done (map One (push_of s (archived_of (id_of c) n))) × NowRepresents stanza (after (Some s) done) new →
      (done : List Step) × IsDone false done (steps_of (ArchivePush n) (Some s)) × NowRepresents stanza (after (Some s) done) new
  now_part stanza new p = (p.0, subst (λ (moves : List Move). IsPartOf p.0 moves) (sym steps_are) p.1, p.2)

  pub now_whole : (stanza : Text) (new : Option Content) → NowRepresents stanza (Some (after_all s (push_of s (archived_of (id_of c) n)))) new →
      (done : List Step) × IsDone true done (steps_of (ArchivePush n) (Some s)) × NowRepresents stanza (after (Some s) done) new
  now_whole stanza new now = (all_of (steps_of (ArchivePush n) (Some s)), refl, subst (λ (r : Repository). NowRepresents stanza r new) whole_is now)

-- ---- the spool

-- a push removes nothing of what a drain has stored
drained_by : (name : ArchiveName) (sum : Text) (s : Stanza) (a : Archived) (archived : Bool) → IsDrained (Some s) name sum → IsDrained (after (Some s) (all_of (map One (if archived then [] else Push a ∷ [])))) name sum
drained_by name sum s a true drained = drained
drained_by name sum s a false drained = drained

drained_after : (name : ArchiveName) (sum : Text) (s : Stanza) (n : Named) (o : Option Cluster) → IsDrained (Some s) name sum → IsDrained (after (Some s) (all_of (option_map_or (λ (k : Cluster). map One (push_of s (archived_of (id_of k) n))) o []))) name sum
drained_after name sum s n None drained = drained
drained_after name sum s n (Some c) drained = drained_by name sum s (archived_of (id_of c) n) (is_archived (archived_of (id_of c) n) s.archived) drained

still_drained : (n : Named) (whole : Bool) (q : Repository) (log : List Done) (name : ArchiveName) (sum : Text) (r : Repository) → Reaches q log r → IsDrained r name sum →
    (x : Repository) × Reaches q (record { command = ArchivePush n; acknowledged = whole } ∷ log) x × IsDrained x name sum
still_drained n whole q log name sum None reached drained = absurd drained
still_drained n false q log name sum (Some s) reached drained = (Some s, (Some s, reached, ([], refl, part_none (steps_of (ArchivePush n) (Some s)))), drained)
still_drained n true q log name sum (Some s) reached drained = (
  after (Some s) (all_of (steps_of (ArchivePush n) (Some s))),
  (Some s, reached, (all_of (steps_of (ArchivePush n) (Some s)), refl, refl)),
  drained_after name sum s n (at_number (current_number s) s.history) drained,
)

pub push_spool : (stanza : Text) (n : Named) (whole : Bool) (q : Repository) (log : List Done) (v : View) → KeepsSpool stanza q log v → KeepsSpool stanza q (record { command = ArchivePush n; acknowledged = whole } ∷ log) v
push_spool stanza n whole q log v keeps = record {
  fixed = keeps.fixed;
  receipts = λ f leaves name sum fits receipt. let x = keeps.receipts f leaves name sum fits receipt in still_drained n whole q log name sum x.0 x.1 x.2;
}
