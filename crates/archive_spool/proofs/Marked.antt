-- What the writes of marks may leave at the names of receipts.
use Rattle.std.proofs.Common.{◌≡◌, ◌≢◌, ◌⊎◌, ⊎_elim, inl, inr, ℕ, true, List, [], ◌∷◌, ◌++◌, Option, Some, None, refl, ap, ◌∙◌, sym, subst, append_assoc, arith}
use Rattle.std.specs.Prelude.{codes}
use Rattle.std.proofs.lemmas.List.{append_cancel_left, append_cancel_right}
use Rattle.sha1.specs.Sha1.{sha1}
use Rattle.base_devices.specs.Content.{Name, Content}
use Rattle.base_devices.specs.Moments.{View, GrowsBy, LeavesNoMore}
use Rattle.base_devices.specs.Crash.{IsTemporary, NowChanges, FirstOf, AllOf}
use Rattle.base_devices.proofs.Steps.{goes_on, goes_wide}
use Rattle.base_disk.specs.Store.{ChangesOnly}
use Rattle.base_disk.proofs.Changes.{only_wide}
use Rattle.base_disk.proofs.Images.{Added, Unsynced}
use Rattle.base_model.specs.declared.wal.ArchiveName.{ArchiveName}
use Rattle.base_model.specs.Text.{Text, ◌⫽◌, In}
use Rattle.base_model.specs.Names.{archive_folder, receipt_name, wal_text}
use Rattle.base_model.specs.Represents.{IsWalName}
use Rattle.base_model.specs.Steps.{Named}
use Rattle.base_model.proofs.Temporary.{receipt_lasts, refusal_lasts}
use Rattle.archive_lookup.specs.Turns.{refusal_name}
use Rattle.archive_lookup.proofs.OnePath.{wal_injective}
use Rattle.archive_spool.specs.Marks.{named, AddsMarks, IsNoReceipt, GivesMarks, receipt_text, mark_temporary}

-- ---- the names of marks

unslash : (prefix x y : Text) → prefix ⫽ x ≡ prefix ⫽ y → x ≡ y
unslash prefix x y e = let h : 47 ∷ x ≡ 47 ∷ y = append_cancel_left prefix (47 ∷ x) (47 ∷ y) e in cc

out_same : (stanza x y : Text) → archive_folder stanza ⫽ codes "out" ⫽ x ≡ archive_folder stanza ⫽ codes "out" ⫽ y → x ≡ y
out_same stanza x y e = unslash (codes "out") x y (unslash (archive_folder stanza) (codes "out" ⫽ x) (codes "out" ⫽ y) e)

pub receipt_injective : (stanza : Text) (a b : ArchiveName) → IsWalName a → IsWalName b → receipt_name stanza a ≡ receipt_name stanza b → a ≡ b
receipt_injective stanza a b p q e =
    wal_injective a b p q (append_cancel_right (wal_text a) (wal_text b) (codes ".ok") (out_same stanza (wal_text a ++ codes ".ok") (wal_text b ++ codes ".ok") e))

abbrev last : ℕ → Text → ℕ
last d [] = d
last d (c ∷ cs) = last c cs

last_is : (d x : ℕ) (xs : Text) → last d (xs ++ x ∷ []) ≡ x
last_is d x [] = refl
last_is d x (c ∷ xs) = last_is c x xs

pub receipt_refusal_apart : (stanza : Text) (a b : ArchiveName) → receipt_name stanza a ≢ refusal_name stanza b
receipt_refusal_apart stanza a b e =
    let x : wal_text a ++ codes ".ok" ≡ wal_text b ++ codes ".error" = out_same stanza (wal_text a ++ codes ".ok") (wal_text b ++ codes ".error") e in
    let ok : last 0 (wal_text a ++ codes ".ok") ≡ 107 = ap (last 0) (sym (append_assoc (wal_text a) (codes ".o") (107 ∷ []))) ∙ last_is 0 107 (wal_text a ++ codes ".o") in
    let error : last 0 (wal_text b ++ codes ".error") ≡ 114 = ap (last 0) (sym (append_assoc (wal_text b) (codes ".erro") (114 ∷ []))) ∙ last_is 0 114 (wal_text b ++ codes ".erro") in
    let u : ◌≡◌ {A = ℕ} 107 114 = sym ok ∙ ap (last 0) x ∙ error in
    omega arith

pub temporary_is : (stanza temp : Text) → temp ≡ mark_temporary stanza → IsTemporary temp
temporary_is stanza temp is = record { prefix = archive_folder stanza ⫽ codes "out/"; is = is ∙ sym (append_assoc (archive_folder stanza) (47 ∷ codes "out/") (codes ".pgbackrest.tmp")) }

apart_temporary : (stanza temp n : Text) (name : ArchiveName) → temp ≡ mark_temporary stanza → n ≡ temp → n ≡ receipt_name stanza name → ⊥
apart_temporary stanza temp n name is e r = receipt_lasts stanza name (subst (λ (k : Text). IsTemporary k) (sym e ∙ r) (temporary_is stanza temp is))

-- ---- one write

module _ (stanza temp : Text) (temp_is : temp ≡ mark_temporary stanza) where
  unsyncs_none : (n : Name) → n ≡ temp → IsNoReceipt stanza n
  unsyncs_none n e name fits r = apart_temporary stanza temp n name temp_is e r

  -- a receipt of a file
  pub receipt_marks : (name : ArchiveName) (bytes : Text) → IsWalName name → (at text : Text) → at ≡ receipt_name stanza name → text ≡ receipt_text (sha1 bytes) → (a b : View)
      → GrowsBy (Added temp at text) (Unsynced temp at text) a b → GivesMarks stanza (named name bytes ∷ []) a b
  receipt_marks name bytes fits at text at_is text_is a b goes =
      goes_wide (Added temp at text) (AddsMarks stanza (named name bytes ∷ [])) (Unsynced temp at text) (IsNoReceipt stanza) a b
      (λ n v x other is e. ⊎_elim
      (λ (y : (n ≡ at) × (v ≡ Some text)). inr (named name bytes, inl refl, sym (receipt_injective stanza other name is fits (sym e ∙ y.0 ∙ at_is)), y.1 ∙ ap (λ (t : Text). Some t) text_is))
      (λ (y : n ≡ temp). absurd (apart_temporary stanza temp n other temp_is y e)) x)
      unsyncs_none goes

  -- a refusal
  pub refusal_marks : (name : ArchiveName) (at text : Text) → at ≡ refusal_name stanza name → (a b : View) → GrowsBy (Added temp at text) (Unsynced temp at text) a b → GivesMarks stanza [] a b
  refusal_marks name at text at_is a b goes =
      goes_wide (Added temp at text) (AddsMarks stanza []) (Unsynced temp at text) (IsNoReceipt stanza) a b
      (λ n v x other is e. ⊎_elim
      (λ (y : (n ≡ at) × (v ≡ Some text)). absurd (receipt_refusal_apart stanza other name (sym e ∙ y.0 ∙ at_is)))
      (λ (y : n ≡ temp). absurd (apart_temporary stanza temp n other temp_is y e)) x)
      unsyncs_none goes

-- ---- writes one after the other

module _ (stanza : Text) where
  marks_wide : (fs gs : List Named) → ((m : Named) → In m fs → In m gs) → (a b : View) → GivesMarks stanza fs a b → GivesMarks stanza gs a b
  marks_wide fs gs wider a b goes = goes_wide (AddsMarks stanza fs) (AddsMarks stanza gs) (IsNoReceipt stanza) (IsNoReceipt stanza) a b
      (λ n v x name is e. ⊎_elim (λ (none : v ≡ None). inl none)
      (λ (y : (m : Named) × In m fs × (m.name ≡ name) × (v ≡ Some (receipt_text (sha1 m.bytes)))). inr (y.0, wider y.0 y.1, y.2, y.3)) (x name is e))
      (λ n x. x) goes

  in_left : (m : Named) (xs ys : List Named) → In m xs → In m (xs ++ ys)
  in_left m [] ys h = absurd h
  in_left m (z ∷ xs) ys h = ⊎_elim (λ (e : m ≡ z). inl e) (λ k. inr (in_left m xs ys k)) h

  in_right : (m : Named) (xs ys : List Named) → In m ys → In m (xs ++ ys)
  in_right m [] ys h = h
  in_right m (z ∷ xs) ys h = inr (in_right m xs ys h)

  pub marks_on : (fs gs : List Named) (a b c : View) → GivesMarks stanza fs a b → GivesMarks stanza gs b c → GivesMarks stanza (fs ++ gs) a c
  marks_on fs gs a b c p q = goes_on (AddsMarks stanza (fs ++ gs)) (IsNoReceipt stanza) a b c
      (marks_wide fs (fs ++ gs) (λ m h. in_left m fs gs h) a b p) (marks_wide gs (fs ++ gs) (λ m h. in_right m fs gs h) b c q)

  pub marks_none : (fs : List Named) (a b : View) → LeavesNoMore a b → GivesMarks stanza fs a b
  marks_none fs a b rests = goes_wide (λ _ _. ⊥) (AddsMarks stanza fs) (λ _. ⊥) (IsNoReceipt stanza) a b (λ n v x. absurd x) (λ n x. absurd x) rests

  pub marks_still : (fs : List Named) (a : View) → GivesMarks stanza fs a a
  marks_still fs a = record {
    later = omega arith;
    same = λ t n v le h. h;
    stays = λ t n v le h. h;
    same_unsynced = λ t n le. refl;
    grows = λ t n v lo hi h. inl (subst (λ (m : ℕ). a.kept m n v) (let e : t ≡ a.moment = omega (arith, lo, hi) in e) h);
    unsyncs = λ t n lo hi h. inl (subst (λ (m : ℕ). a.unsynced m n ≡ true) (let e : t ≡ a.moment = omega (arith, lo, hi) in e) h);
  }

-- marks that are removed give no receipt
pub marks_gone : (stanza : Text) (a b : View) → GrowsBy (λ _ v. v ≡ None) (λ _. ⊥) a b → GivesMarks stanza [] a b
marks_gone stanza a b goes = goes_wide (λ _ v. v ≡ None) (AddsMarks stanza []) (λ _. ⊥) (IsNoReceipt stanza) a b
    (λ n v e name is k. inl e) (λ n x. absurd x) goes

-- ---- a mark's names

module _ (stanza : Text) where
  pub receipt_stays : (name : ArchiveName) (n : Text) → n ≡ receipt_name stanza name → ¬ IsTemporary n
  receipt_stays name n is t = receipt_lasts stanza name (subst (λ (k : Text). IsTemporary k) is t)

  pub refusal_stays : (name : ArchiveName) (n : Text) → n ≡ refusal_name stanza name → ¬ IsTemporary n
  refusal_stays name n is t = refusal_lasts stanza (wal_text name) (subst (λ (k : Text). IsTemporary k) is t)

-- a write of a mark, by its names
module _ (temp name text of at is : Text) (temp_is : temp ≡ of) (name_is : name ≡ at) (text_is : text ≡ is) where
  pub part_as : (a b : Option Content) → NowChanges (FirstOf ((name, text) ∷ [])) a b → NowChanges (FirstOf ((at, is) ∷ [])) a b
  part_as a b p = subst (λ (n : Text). NowChanges (FirstOf ((n, is) ∷ [])) a b) name_is (subst (λ (t : Text). NowChanges (FirstOf ((name, t) ∷ [])) a b) text_is p)

  pub whole_as : (a b : Option Content) → NowChanges (AllOf ((name, text) ∷ [])) a b → NowChanges (AllOf ((at, is) ∷ [])) a b
  whole_as a b p = subst (λ (n : Text). NowChanges (AllOf ((n, is) ∷ [])) a b) name_is (subst (λ (t : Text). NowChanges (AllOf ((name, t) ∷ [])) a b) text_is p)

  pub only_as : (a b : View) → ChangesOnly (λ n. (n ≡ temp) ⊎ (n ≡ name)) a b → ChangesOnly (λ n. (n ≡ of) ⊎ (n ≡ at)) a b
  only_as a b p = only_wide (λ n. (n ≡ temp) ⊎ (n ≡ name)) (λ n. (n ≡ of) ⊎ (n ≡ at)) a b
      (λ n x. ⊎_elim (λ (e : n ≡ temp). inl (e ∙ temp_is)) (λ (e : n ≡ name). inr (e ∙ name_is)) x) p
