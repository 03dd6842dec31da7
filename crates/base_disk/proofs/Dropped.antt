-- Names that are removed one by one.
use Rattle.std.specs.Prelude.{◌≡◌, ◌⊎◌, ℕ, Bool, true, false, List, Option, Some, None, IsTrue, refl, length, option_map, map, All, string_bytes, IfSome}
use Rattle.std.proofs.Common.{sym, ◌∙◌, ap, inl, inr, ⊎_elim, cond}
use Rattle.std.proofs.Math.Path.{fun_ext}
use Rattle.std.proofs.lemmas.List.Elements.{All-contains, All-map}
use Rattle.base_devices.specs.declared.disk.Found.{Found}
use Rattle.base_devices.specs.Content.{Name, Value, Content, at, is_below, IsListing}
use Rattle.base_disk.specs.Dropped.{without, IsAbsent, Drops}

abbrev pub entry : Found → Name × ℕ
entry x = (string_bytes x.name, x.size)

module _ (folder : Name) (found : List Found) where
  -- what was below the folder isn't any more
  all_absent : (f g : Content) → IsListing folder f (map entry found) → All (λ x. is_below folder (string_bytes x.name) ≡ true → IsAbsent (Some g) (string_bytes x.name)) found
      → (q : Name) (bytes : List ℕ) → is_below folder q ≡ true → f q ≡ Some bytes → g q ≡ None
  all_absent f g listing gone q bytes below is =
      All-contains (λ (p : Name × ℕ). is_below folder p.0 ≡ true → IsAbsent (Some g) p.0) (map entry found) (q, length bytes) (All-map (λ (p : Name × ℕ). is_below folder p.0 ≡ true → IsAbsent (Some g) p.0) entry found gone)
      (listing.all q bytes below is) below

  pub all_dropped : (old new : Option Content) → IfSome old (λ f. IsListing folder f (map entry found)) → All (λ x. is_below folder (string_bytes x.name) ≡ true → IsAbsent new (string_bytes x.name)) found
      → Drops (is_below folder) old new → new ≡ option_map (without folder) old
  all_dropped None None listing gone drops = refl
  all_dropped None (Some g) listing gone drops = ⊎_elim (λ same. cc same) (λ h. cc h.1) (drops folder)
  all_dropped (Some f) None listing gone drops = ⊎_elim (λ same. cc same) (λ h. cc h.1) (drops folder)
  all_dropped (Some f) (Some g) listing gone drops = ap (λ (h : Content). Some h) (fun_ext (λ q. one q (is_below folder q) refl (f q) refl (drops q)))
    where
      some : (v w : Value) → ◌≡◌ {A = Option Value} (Some v) (Some w) → v ≡ w
      some v w is = cc is

      one : (q : Name) (b : Bool) → is_below folder q ≡ b → (v : Value) → f q ≡ v → (at q (Some g) ≡ at q (Some f)) ⊎ (IsTrue (is_below folder q) × (at q (Some g) ≡ Some None)) → g q ≡ cond b None (f q)
      one q true below None is (inl same) = some (g q) (f q) same ∙ is
      one q true below (Some bytes) is (inl same) = all_absent f g listing gone q bytes below is
      one q true below v is (inr h) = some (g q) None h.1
      one q false below v is (inl same) = some (g q) (f q) same
      one q false below v is (inr h) = let both : ◌≡◌ {A = Bool} false true = sym below ∙ h.0 in cc
