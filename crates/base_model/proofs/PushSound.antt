-- A push keeps a stanza sound.
use Rattle.std.proofs.Common.{◌≡◌, ⊎_elim, inl, inr, ℕ, zero, suc, ◌-◌, List, [], ◌∷◌, ◌++◌, map, Option, Some, None, refl, ap, ◌∙◌, sym, subst, Bool, true, false}
use Rattle.std.specs.Prelude.{IfSome, slice_get, if◌then◌else◌}
use Rattle.std.specs.Option.{option_map_or}
use Rattle.std.proofs.lemmas.Slice.Eq.{bytes_eq-Decides}
use Rattle.base_model.specs.declared.clusters.Cluster.{Cluster}
use Rattle.base_model.specs.declared.wal.Segment.{Segment}
use Rattle.base_model.specs.declared.wal.WalPart.{WalPart}
use Rattle.base_model.specs.declared.wal.ArchiveName.TheVariants.{Segment as Whole}
use Rattle.base_model.specs.Text.{In, ◌⫽◌}
use Rattle.base_model.specs.Names.{id_text, wal_text}
use Rattle.base_model.specs.Fields.{at_number}
use Rattle.base_model.specs.Repository.{Archived, Backup, Stanza, id_of, current_number, IsSound, IsSoundStanza, HasItsSegments, IsWithinSpan, AreSound, AreApart, IsNew}
use Rattle.base_model.specs.Steps.{Step, One, ArchivePush, Named, Push, changed, after, push_of, archived_of, is_archived, is_same_file}
use Rattle.base_model.specs.Log.{IsDone}
use Rattle.base_model.proofs.Logged.{KeepsSound, one_part, no_step}
use Rattle.base_model.proofs.Pushed.{in_left, in_either, archived_by}

listed_at : {X : Type 0} (xs : List X) (i : ℕ) (x : X) → slice_get xs i ≡ Some x → In x xs
listed_at [] i x e = cc
listed_at (y ∷ xs) zero x e = inl (let h : x ≡ y = cc in h)
listed_at (y ∷ xs) (suc i) x e = inr (listed_at xs i x e)

if_some : {X : Type 0} (P Q : X → Type 0) (o : Option X) → ((x : X) → P x → Q x) → IfSome o P → IfSome o Q
if_some P Q None with_q h = tt
if_some P Q (Some x) with_q h = with_q x h

one_file : (a x : Archived) → a.id ≡ x.id → a.name ≡ x.name → is_same_file a x ≡ true
one_file a x id name = (bytes_eq-Decides (id_text a.id ⫽ wal_text a.name) (id_text x.id ⫽ wal_text x.name)).1
    (ap (λ i. id_text i ⫽ wal_text a.name) id ∙ ap (λ n. id_text x.id ⫽ wal_text n) name)

apart_more : (a : Archived) (files : List Archived) → AreApart files → ((x : Archived) → In x files → is_same_file a x ≡ true → ⊥) → AreApart (files ++ a ∷ [])
apart_more a [] apart off = ((λ b at same. at), tt)
apart_more a (x ∷ files) apart off = (new, apart_more a files apart.1 (λ y at. off y (inr at)))
  where
    new : IsNew x (files ++ a ∷ [])
    new b at same = ⊎_elim (λ i. apart.0 b i same)
        (λ (e : b ≡ a). off x (inl refl) (one_file a x (sym (ap (λ (y : Archived). y.id) e) ∙ same.0) (sym (ap (λ (y : Archived). y.name) e) ∙ same.1))) (in_either b a files at)

module _ (s : Stanza) (a : Archived) where
  segments_more : (b : Backup) → HasItsSegments s b → HasItsSegments (changed (Push a) s) b
  segments_more b h = if_some
      (λ (w : WalPart). (segment : Segment) (c : Cluster) → In c s.history → c.id ≡ b.entry.db → IsWithinSpan w.size.0 w.span segment → (x : Archived) × In x s.archived × (x.id ≡ id_of c) × (x.name ≡ Whole segment))
      (λ (w : WalPart). (segment : Segment) (c : Cluster) → In c s.history → c.id ≡ b.entry.db → IsWithinSpan w.size.0 w.span segment → (x : Archived) × In x (s.archived ++ a ∷ []) × (x.id ≡ id_of c) × (x.name ≡ Whole segment))
      b.wal (λ w old segment c at db within. let x = old segment c at db within in (x.0, in_left x.0 s.archived (a ∷ []) x.1, x.2, x.3)) h

  backups_more : (earlier backups : List Backup) → AreSound s earlier backups → AreSound (changed (Push a) s) earlier backups
  backups_more earlier [] h = tt
  backups_more earlier (b ∷ backups) h = (record { cluster = h.0.cluster; span = h.0.span; prior = h.0.prior; segments = segments_more b h.0.segments }, backups_more (earlier ++ b ∷ []) backups h.1)

  -- a file more, of a cluster of the history and not yet archived
  pub more_sound : IsSoundStanza s → (c : Cluster) → In c s.history → a.id ≡ id_of c → (is_archived a s.archived ≡ true → ⊥) → IsSoundStanza (changed (Push a) s)
  more_sound h c at id off = record {
    some = h.some;
    numbers = h.numbers;
    neighbours = h.neighbours;
    ids = λ x in_files. ⊎_elim (h.ids x) (λ (e : x ≡ a). (c, at, ap (λ (y : Archived). y.id) e ∙ id)) (in_either x a s.archived in_files);
    apart = apart_more a s.archived h.apart (λ x in_files same. off (archived_by a x s.archived in_files same));
    backups = backups_more [] s.backups h.backups;
  }

  pub pushed : (whole : Bool) (done : List Step) → IsSoundStanza s → (c : Cluster) → In c s.history → a.id ≡ id_of c → IsDone whole done (map One (push_of s a)) → IsSound (after (Some s) done)
  pushed whole done h c at id is = go (is_archived a s.archived) refl whole is
    where
      with_it : (is_archived a s.archived ≡ true → ⊥) → done ≡ Push a ∷ [] → IsSound (after (Some s) done)
      with_it off e = subst (λ (d : List Step). IsSound (after (Some s) d)) (sym e) (more_sound h c at id off)

      go : (archived : Bool) → is_archived a s.archived ≡ archived → (whole : Bool) → IsDone whole done (map One (if archived then [] else Push a ∷ [])) → IsSound (after (Some s) done)
      go true e true is = no_step (Some s) done h is
      go true e false is = no_step (Some s) done h is
      go false e true is = with_it (λ k. let u : ◌≡◌ {A = Bool} false true = sym e ∙ k in cc) is
      go false e false is = ⊎_elim (no_step (Some s) done h) (with_it (λ k. let u : ◌≡◌ {A = Bool} false true = sym e ∙ k in cc)) (one_part (Push a) done is)

pub push_keeps_sound : (n : Named) → KeepsSound (ArchivePush n)
push_keeps_sound n None true done sound is = no_step None done sound is
push_keeps_sound n None false done sound is = no_step None done sound is
push_keeps_sound n (Some s) whole done sound is = by (at_number (current_number s) s.history) refl whole is
  where
    by : (o : Option Cluster) → at_number (current_number s) s.history ≡ o → (whole : Bool) → IsDone whole done (option_map_or (λ (c : Cluster). map One (push_of s (archived_of (id_of c) n))) o []) → IsSound (after (Some s) done)
    by None e true is = no_step (Some s) done sound is
    by None e false is = no_step (Some s) done sound is
    by (Some c) e whole is = pushed s (archived_of (id_of c) n) whole done sound c (listed_at s.history (current_number s - 1) c e) refl is
