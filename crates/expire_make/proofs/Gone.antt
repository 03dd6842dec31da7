-- How many archive files an expiry has removed.
use Rattle.std.proofs.Common.{◌≡◌, ◌↔◌, ◌⊎◌, ⊎_elim, inl, inr, ℕ, Bool, true, false, List, [], ◌∷◌, get_or, Option, Some, None, refl, ap, ◌∙◌, sym, subst, arith}
use Rattle.std.specs.Prelude.{IsSome, bytes_eq}
use Rattle.std.proofs.lemmas.Bool.{false≢true}
use Rattle.std.proofs.lemmas.Slice.Eq.{bytes_eq-Decides}
use Rattle.base_devices.specs.Content.{Name, Value, Content, at}
use Rattle.base_devices.specs.States.{DiskState}
use Rattle.base_devices.proofs.Nows.{known_as}
use Rattle.base_disk.specs.Store.{ChangesOnly}
use Rattle.base_model.specs.declared.labels.Label.{Label}
use Rattle.base_model.specs.declared.wal.ArchiveId.{ArchiveId}
use Rattle.base_model.specs.declared.wal.ArchiveName.{ArchiveName}
use Rattle.base_model.specs.Text.{Text, In}
use Rattle.base_model.specs.Names.{backup_info}
use Rattle.base_model.specs.Represents.{IsArchiveFile}
use Rattle.repo_pair.specs.Member.{IsOfPair}
use Rattle.expire_make.specs.Losing.{TakesAway, IsUnlisted, IsUnneeded}
use Rattle.expire_make.specs.Removed.{AreDistinct, IsCount, Counted, CountsGone}
use Rattle.expire_make.proofs.LabelFolders.{label_begins}
use Rattle.expire_make.proofs.Counts.{took_shows}

-- a name is in a list, or it isn't
is_in : (n : Name) (ns : List Name) → In n ns ⊎ (¬ In n ns)
is_in n [] = inr (λ i. i)
is_in n (m ∷ ms) = by (bytes_eq n m) refl (is_in n ms)
  where
    by : (b : Bool) → bytes_eq n m ≡ b → In n ms ⊎ (¬ In n ms) → In n (m ∷ ms) ⊎ (¬ In n (m ∷ ms))
    by true e more = inl (inl ((bytes_eq-Decides n m).0 e))
    by false e (inl i) = inl (inr i)
    by false e (inr off) = inr (λ h. ⊎_elim (λ (same : n ≡ m). false≢true (sym e ∙ (bytes_eq-Decides n m).1 same)) (λ i. off i) h)

some_is : (v w : Value) → ◌≡◌ {A = Option Value} (Some v) (Some w) → v ≡ w
some_is v w e = cc

none_some : (v : Value) → v ≡ None → IsSome v → ⊥
none_some None e h = let no : ◌≡◌ {A = Bool} false true = h in cc
none_some (Some b) e h = let no : ◌≡◌ {A = Value} (Some b) None = e in cc

module _ (stanza : Text) where
  file_of : (keeps : ArchiveId → ArchiveName → Bool) (n : Name) → IsUnneeded stanza keeps n → IsArchiveFile stanza n
  file_of keeps n u = record { id = u.id; file = u.file; sum = u.sum; fits = u.fits; is = u.is }

  file_begins : (n : Name) → IsArchiveFile stanza n → get_or n 0 0 ≡ 97
  file_begins n file = ap (λ (t : Text). get_or t 0 0) file.is

  pair_begins : (n : Name) → IsOfPair (backup_info stanza) n → get_or n 0 0 ≡ 98
  pair_begins n (inl e) = ap (λ (t : Text). get_or t 0 0) e
  pair_begins n (inr (inl e)) = ap (λ (t : Text). get_or t 0 0) e
  pair_begins n (inr (inr e)) = ap (λ (t : Text). get_or t 0 0) e

  module _ (labels : List Label) (a b c : DiskState) (saved : ChangesOnly (IsOfPair (backup_info stanza)) a.view b.view) (dropped : TakesAway (IsUnlisted stanza labels) b c) where
    -- archive files are as before
    files_same : (n : Name) → IsArchiveFile stanza n → at n c.view.now ≡ at n a.view.now
    files_same n file = ⊎_elim
        (λ (e : at n c.view.now ≡ at n b.view.now). e ∙ saved.now n (λ h. let x = file_begins n file in let y = pair_begins n h in absurd (omega (arith, x, y))))
        (λ x. let u = x.0 in let i = file_begins n file in let j = label_begins stanza u.label n u.below in absurd (omega (arith, i, j)))
        (dropped.now n)

    pub counts_gone : (keeps : ArchiveId → ArchiveName → Bool) (k : ℕ) (d : DiskState) → (IsSome a.view.now → IsSome c.view.now) → (IsSome c.view.now → Counted (IsUnneeded stanza keeps) k c.view.now d.view.now) → CountsGone stanza k a.view.now d.view.now
    counts_gone keeps k d known counted = record { counts = goes }
      where
        some_f : (f : Content) → a.view.now ≡ Some f → IsSome a.view.now
        some_f f first = subst (λ (o : Option Content). IsSome o) (sym first) refl

        goes : (f g : Content) → a.view.now ≡ Some f → d.view.now ≡ Some g → (names : List Name) × AreDistinct names × ((n : Name) → In n names ↔ (IsArchiveFile stanza n × IsSome (f n) × (g n ≡ None))) × IsCount k names
        goes f g first last =
            let m = known_as c.view.now (known (some_f f first)) in
            let x = counted (known (some_f f first)) in
            let shows = took_shows (IsUnneeded stanza keeps) x.names c.view.now d.view.now x.ever_taken m.0 g m.1 last in
            let same : (n : Name) → IsArchiveFile stanza n → m.0 n ≡ f n = λ n file. some_is (m.0 n) (f n) (sym (ap (at n) m.1) ∙ files_same n file ∙ ap (at n) first) in (
              x.names,
              shows.distinct,
              λ n. (
                λ i. let w = shows.was n i in let file = file_of keeps n w.0 in (file, subst (λ (v : Value). IsSome v) (same n file) w.1, w.2),
                λ h. ⊎_elim (λ i. i) (λ off. absurd (none_some (f n) (sym (same n h.0) ∙ sym (shows.others n off) ∙ h.2) h.1)) (is_in n x.names),
              ),
              x.count,
            )
