-- Which receipts the spool has, or a crash leaves, after the writes of marks.
use Rattle.std.proofs.Common.{◌≡◌, ◌⊎◌, ⊎_elim, inl, inr, ℕ, ◌≤◌, Bool, true, false, List, [], ◌∷◌, Option, Some, None, refl, ◌∙◌, sym, subst, arith}
use Rattle.std.specs.Prelude.{IsSome, IsTrue}
use Rattle.std.proofs.lemmas.List.{append_cancel_right}
use Rattle.sha1.specs.Sha1.{sha1}
use Rattle.base_text.specs.Sum.{IsSum, sum_text}
use Rattle.base_text.proofs.Sums.{sum_text-injective}
use Rattle.base_text.proofs.Digests.{IsSum-sha1}
use Rattle.base_devices.specs.Content.{Name, Value, Content, Holds, put}
use Rattle.base_devices.specs.Moments.{View, is_unsynced, MayKeep}
use Rattle.base_devices.specs.Crash.{Leaves}
use Rattle.base_devices.proofs.Nows.{known_as}
use Rattle.base_disk.proofs.Images.{Law, by_name, put_same}
use Rattle.base_model.specs.declared.wal.ArchiveName.{ArchiveName}
use Rattle.base_model.specs.Text.{Text, In}
use Rattle.base_model.specs.Names.{receipt_name}
use Rattle.base_model.specs.Represents.{IsWalName}
use Rattle.base_model.specs.Steps.{Named}
use Rattle.base_model.specs.Log.{HasReceipt}
use Rattle.archive_lookup.specs.Turns.{HadReceipt}
use Rattle.archive_spool.specs.Marks.{GivesMarks, receipt_text}

-- a crash may leave this value there, kept or unsynced
abbrev MayBe : View → Name → Value → Type 0
MayBe v n x = v.kept v.moment n x ⊎ (IsTrue (v.unsynced v.moment n) × IsSome x)

pick : (v : View) (f : Content) → v.now ≡ Some f → Law v → (n : Name) → (x : Value) × MayBe v n x
pick v f is law n =
    let holds : Holds v.now n (f n) = subst (λ (o : Option Content). Holds o n (f n)) (sym is) refl in
    ⊎_elim (λ k. (f n, inl k)) (λ l. (Some [], inr (l, refl))) (law n (f n) holds)

-- what may be left at one name is left in some image
image_with : (v : View) (law : Law v) → IsSome v.now → (n : Name) (x : Value) → MayKeep v n x → (f : Content) × Leaves v v.moment f × (f n ≡ x)
image_with v law some n x kept =
    let now = known_as v.now some in
    let f : Content = λ m. (pick v now.0 now.1 law m).0 in (
      put n x f,
      inr (λ m. by_name n m (λ (y : Value). MayBe v m y) x (f m) (λ e. subst (λ (k : Name). MayBe v k x) e (inl kept)) (λ off. (pick v now.0 now.1 law m).1)),
      put_same n x f,
    )

some_same : (x y : Text) → ◌≡◌ {A = Value} (Some x) (Some y) → x ≡ y
some_same x y e = cc

not_none : (x : Text) (v : Value) → v ≡ Some x → v ≡ None → ⊥
not_none x v some none = let e : ◌≡◌ {A = Value} None (Some x) = sym none ∙ some in cc

not_unsynced : (b : Bool) → (b ≡ true → ⊥) → b ≡ false
not_unsynced true off = absurd (off refl)
not_unsynced false off = refl

module _ (stanza : Text) (files : List Named) (old new : View) (law : Law old) (new_law : Law new) (marks : GivesMarks stanza files old new) where
  abbrev IsOfFile : ArchiveName → Text → Type 0
  IsOfFile name sum = (n : Named) × In n files × (n.name ≡ name) × (sha1 n.bytes ≡ sum)

  module _ (fixed : (name : ArchiveName) → IsWalName name → is_unsynced old (receipt_name stanza name) ≡ false) where
    -- no receipt is unsynced at any moment
    pub marks_synced_at : (m : ℕ) → old.moment ≤ m → m ≤ new.moment → (name : ArchiveName) → IsWalName name → new.unsynced m (receipt_name stanza name) ≡ false
    marks_synced_at m lo hi name fits = not_unsynced (new.unsynced m (receipt_name stanza name)) (λ unsynced. ⊎_elim
        (λ (was : old.unsynced old.moment (receipt_name stanza name) ≡ true). let u : ◌≡◌ {A = Bool} false true = sym (fixed name fits) ∙ was in cc)
        (λ off. off name fits refl)
        (marks.unsyncs m (receipt_name stanza name) lo hi unsynced))

    kept_receipt : (known : IsSome old.now) (m : ℕ) (v : Value) → old.moment ≤ m → m ≤ new.moment → (name : ArchiveName) (sum : Text) → IsWalName name → IsSum sum → v ≡ Some (receipt_text sum) → new.kept m (receipt_name stanza name) v
        → HadReceipt stanza old name sum ⊎ IsOfFile name sum
    kept_receipt known m v lo hi name sum fits digest is kept = ⊎_elim
        (λ was. let x = image_with old law known (receipt_name stanza name) v was in inl (x.0, x.1, (digest, x.2 ∙ is)))
        (λ added. ⊎_elim (λ (none : v ≡ None). absurd (not_none (receipt_text sum) v is none))
        (λ (y : (n : Named) × In n files × (n.name ≡ name) × (v ≡ Some (receipt_text (sha1 n.bytes)))).
        inr (y.0, y.1, y.2, sum_text-injective (sha1 y.0.bytes) sum (IsSum-sha1 y.0.bytes) digest (append_cancel_right (sum_text (sha1 y.0.bytes)) (sum_text sum) (10 ∷ []) (some_same (receipt_text (sha1 y.0.bytes)) (receipt_text sum) (sym y.3 ∙ is)))))
        (added name fits refl))
        (marks.grows m (receipt_name stanza name) v lo hi kept)

    -- each receipt is an earlier one, or of one of these files
    pub marks_receipts_at : (known : IsSome old.now) (m : ℕ) (f : Content) → old.moment ≤ m → m ≤ new.moment → Leaves new m f → (name : ArchiveName) (sum : Text) → IsWalName name → HasReceipt stanza f name sum
        → HadReceipt stanza old name sum ⊎ ((n : Named) × In n files × (n.name ≡ name) × (sha1 n.bytes ≡ sum))
    marks_receipts_at known m f lo hi (inl now) name sum fits receipt =
        let at = receipt_name stanza name in
        let holds : Holds new.now at (f at) = subst (λ (o : Option Content). Holds o at (f at)) (sym now) refl in
        ⊎_elim (λ (k : MayKeep new at (f at)). kept_receipt known new.moment (f at) marks.later (omega arith) name sum fits receipt.0 receipt.1 k)
        (λ (l : is_unsynced new at ≡ true). let u : ◌≡◌ {A = Bool} false true = sym (marks_synced_at new.moment marks.later (omega arith) name fits) ∙ l in cc)
        (new_law at (f at) holds)
    marks_receipts_at known m f lo hi (inr image) name sum fits receipt =
        let at = receipt_name stanza name in
        ⊎_elim (λ (k : new.kept m at (f at)). kept_receipt known m (f at) lo hi name sum fits receipt.0 receipt.1 k)
        (λ (l : IsTrue (new.unsynced m at) × IsSome (f at)). let u : ◌≡◌ {A = Bool} false true = sym (marks_synced_at m lo hi name fits) ∙ l.0 in cc)
        (image at)

pub marks_receipts : (stanza : Text) (files : List Named) (old new : View) → Law old → Law new → GivesMarks stanza files old new → IsSome old.now
    → ((name : ArchiveName) → IsWalName name → is_unsynced old (receipt_name stanza name) ≡ false)
    → (m : ℕ) (f : Content) → old.moment ≤ m → m ≤ new.moment → Leaves new m f → (name : ArchiveName) (sum : Text) → IsWalName name → HasReceipt stanza f name sum
    → HadReceipt stanza old name sum ⊎ ((n : Named) × In n files × (n.name ≡ name) × (sha1 n.bytes ≡ sum))
marks_receipts stanza files old new law new_law marks known fixed = marks_receipts_at stanza files old new law new_law marks fixed known

pub marks_synced : (stanza : Text) (files : List Named) (old new : View) → GivesMarks stanza files old new → ((name : ArchiveName) → IsWalName name → is_unsynced old (receipt_name stanza name) ≡ false)
    → (m : ℕ) → old.moment ≤ m → m ≤ new.moment → (name : ArchiveName) → IsWalName name → new.unsynced m (receipt_name stanza name) ≡ false
marks_synced stanza files old new marks fixed m lo hi name fits = not_unsynced (new.unsynced m (receipt_name stanza name)) (λ unsynced. ⊎_elim
    (λ (was : old.unsynced old.moment (receipt_name stanza name) ≡ true). let u : ◌≡◌ {A = Bool} false true = sym (fixed name fits) ∙ was in cc)
    (λ off. off name fits refl)
    (marks.unsyncs m (receipt_name stanza name) lo hi unsynced))
