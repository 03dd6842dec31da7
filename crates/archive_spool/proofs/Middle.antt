-- What is between two texts.
use Rattle.std.proofs.Common.{◌≡◌, ◌≢◌, ℕ, ◌-◌, Bool, true, false, [], ◌∷◌, ◌++◌, length, length-append, take, drop, Option, Some, None, refl, ap, ap₂, ◌∙◌, sym, arith}
use Rattle.std.specs.Prelude.{bytes_eq, IfSome, IfNone}
use Rattle.std.proofs.lemmas.List.{append_cancel_right, take-append-drop}
use Rattle.std.proofs.lemmas.Slice.Eq.{bytes_eq-Decides}
use Rattle.base_model.specs.declared.wal.ArchiveName.{ArchiveName}
use Rattle.base_model.specs.Names.{wal_text}
use Rattle.base_model.specs.Represents.{IsWalName}
use Rattle.base_model.specs.Text.{Text}
use Rattle.archive_lookup.proofs.OnePath.{stripped, below_after}

drop_prefix : (xs ys : Text) → drop (length xs) (xs ++ ys) ≡ ys
drop_prefix [] ys = refl
drop_prefix (x ∷ xs) ys = drop_prefix xs ys

ended : (text end x : Text) → bytes_eq (drop (length text - length end) text) end ≡ true → x ≡ take (length text - length end) text → text ≡ x ++ end
ended text end x test is = sym (take-append-drop (length text - length end) text)
    ∙ ap₂ (λ (a b : Text). a ++ b) (sym is) ((bytes_eq-Decides (drop (length text - length end) text) end).0 test)

unended : (text end x : Text) → bytes_eq (drop (length text - length end) text) end ≡ false → text ≢ x ++ end
unended text end x test e =
    let k : length text - length end ≡ length x = omega (arith, ap length e, length-append x end) in
    let same : drop (length text - length end) text ≡ end = ap (λ (n : ℕ). drop n text) k ∙ ap (drop (length x)) e ∙ drop_prefix x end in
    let on : bytes_eq (drop (length text - length end) text) end ≡ true = (bytes_eq-Decides (drop (length text - length end) text) end).1 same in
    let off : ◌≡◌ {A = Bool} false true = sym test ∙ on in cc

module _ (text prefix following end : Text) (starts : bytes_eq (take (length prefix) text) prefix ≡ true) (following_is : following ≡ drop (length prefix) text) where
  pub no_end : bytes_eq (drop (length following - length end) following) end ≡ false → (name : ArchiveName) → text ≢ prefix ++ (wal_text name ++ end)
  no_end test name e = unended following end (wal_text name) test (below_after text prefix following (wal_text name ++ end) starts following_is e)

  module _ (middle : Text) (ends : bytes_eq (drop (length following - length end) following) end ≡ true) (middle_is : middle ≡ take (length following - length end) following) where
    pub between_value : (r : Option ArchiveName) → IfSome r (λ name. middle ≡ wal_text name) → IfSome r (λ name. text ≡ prefix ++ (wal_text name ++ end))
    between_value None h = tt
    between_value (Some name) h = stripped text prefix following starts following_is
        ∙ ap (λ (t : Text). prefix ++ t) (ended following end middle ends middle_is ∙ ap (λ (t : Text). t ++ end) h)

    pub between_none : (r : Option ArchiveName) → IfNone r ((name : ArchiveName) → IsWalName name → middle ≢ wal_text name)
        → IfNone r ((name : ArchiveName) → IsWalName name → text ≢ prefix ++ (wal_text name ++ end))
    between_none (Some name) h = tt
    between_none None h = λ name fits e. h name fits
        (append_cancel_right middle (wal_text name) end (sym (ended following end middle ends middle_is) ∙ below_after text prefix following (wal_text name ++ end) starts following_is e))
