-- Takes a fetched segment.
use Rattle.std.proofs.Common.{◌≡◌, ◌≢◌, ◌⊎◌, ⊎_elim, inl, inr, ℕ, ◌<◌, ◌^◌, Bool, true, false, cond, List, ◌∷◌, ◌++◌, length, drop, map, Option, Some, None, refl, ap, ◌∙◌, sym, subst, append_assoc, arith}
use Rattle.std.specs.Prelude.{All, IfSome, IsSomeAnd, IsTrue, nat_eq, option_map, string_bytes}
use Rattle.std.specs.List.{starts_with}
use Rattle.std.proofs.Math.Path.{fun_ext}
use Rattle.std.proofs.lemmas.List.Elements.{All-contains, All-map}
use Rattle.sha1.specs.Sha1.{sha1}
use Rattle.base_devices.specs.declared.disk.Found.{Found}
use Rattle.base_devices.specs.Content.{Name, Value, Content, at, is_below, IsListing}
use Rattle.base_disk.specs.Dropped.{IsAbsent, Drops}
use Rattle.base_disk.proofs.Below.{below_prefix}
use Rattle.base_disk.proofs.Dropped.{entry}
use Rattle.base_model.specs.Text.{Text}
use Rattle.cmd_archive_get.specs.declared.fault.GetFault.{GetFault}
use Rattle.cmd_archive_get.specs.declared.fault.GetFault.TheVariants.{SegmentName, PathOutside, StanzaMismatch, Ambiguous, SegmentDamaged, TooLong}
use Rattle.cmd_archive_get.specs.Serving.{PassCause}
use Rattle.cmd_archive_get_async.specs.Names.{lacking}
use Rattle.cmd_archive_get_async.specs.Taking.{LacksSum}
use Rattle.cmd_archive_get_async.proofs.Within.{prefix_split}

-- ---- names that begin alike are removed

module _ (folder prefix : Name) (lies : (rest : Name) × (prefix ≡ folder ++ 47 ∷ rest)) (found : List Found) where
  below : (q : Name) → starts_with nat_eq q prefix ≡ true → is_below folder q ≡ true
  below q is =
      let rest = drop (length prefix) q in
      below_prefix folder (lies.0 ++ rest) q (prefix_split prefix q is ∙ ap (λ (t : Name). t ++ rest) lies.1 ∙ append_assoc folder (47 ∷ lies.0) rest)

  -- what began so isn't there any more
  all_absent : (f g : Content) → IsListing folder f (map entry found) → All (λ x. starts_with nat_eq (string_bytes x.name) prefix ≡ true → IsAbsent (Some g) (string_bytes x.name)) found
      → (q : Name) (bytes : List ℕ) → starts_with nat_eq q prefix ≡ true → f q ≡ Some bytes → g q ≡ None
  all_absent f g listing gone q bytes begins is =
      All-contains (λ (p : Name × ℕ). starts_with nat_eq p.0 prefix ≡ true → IsAbsent (Some g) p.0) (map entry found) (q, length bytes) (All-map (λ (p : Name × ℕ). starts_with nat_eq p.0 prefix ≡ true → IsAbsent (Some g) p.0) entry found gone)
      (listing.all q bytes (below q begins) is) begins

  pub all_lacking : (old new : Option Content) → IfSome old (λ f. IsListing folder f (map entry found)) → All (λ x. starts_with nat_eq (string_bytes x.name) prefix ≡ true → IsAbsent new (string_bytes x.name)) found
      → Drops (λ q. starts_with nat_eq q prefix) old new → new ≡ option_map (lacking prefix) old
  all_lacking None None listing gone drops = refl
  all_lacking None (Some g) listing gone drops = ⊎_elim (λ same. cc same) (λ h. cc h.1) (drops folder)
  all_lacking (Some f) None listing gone drops = ⊎_elim (λ same. cc same) (λ h. cc h.1) (drops folder)
  all_lacking (Some f) (Some g) listing gone drops = ap (λ (h : Content). Some h) (fun_ext (λ q. one q (starts_with nat_eq q prefix) refl (f q) refl (drops q)))
    where
      some : (v w : Value) → ◌≡◌ {A = Option Value} (Some v) (Some w) → v ≡ w
      some v w is = cc is

      one : (q : Name) (b : Bool) → starts_with nat_eq q prefix ≡ b → (v : Value) → f q ≡ v → (at q (Some g) ≡ at q (Some f)) ⊎ (IsTrue (starts_with nat_eq q prefix) × (at q (Some g) ≡ Some None)) → g q ≡ cond b None (f q)
      one q true begins None is (inl same) = some (g q) (f q) same ∙ is
      one q true begins (Some bytes) is (inl same) = all_absent f g listing gone q bytes begins is
      one q true begins v is (inr h) = some (g q) None h.1
      one q false begins v is (inl same) = some (g q) (f q) same
      one q false begins v is (inr h) = let both : ◌≡◌ {A = Bool} false true = sym begins ∙ h.0 in cc

-- ---- the spool doesn't have the bytes

some_is : (x y : Text) → ◌≡◌ {A = Value} (Some x) (Some y) → x ≡ y
some_is x y e = cc

module _ (name sum : Text) where
  pub lacks_none : (o : Option Content) → IfSome o (λ f. f name ≡ None) → LacksSum o name sum
  lacks_none None h = tt
  lacks_none (Some f) h = λ bytes is short same. let u : ◌≡◌ {A = Value} None (Some bytes) = sym h ∙ is in cc

  pub lacks_other : (o : Option Content) (held : Text) → IfSome o (λ f. f name ≡ Some held) → sha1 held ≢ sum → LacksSum o name sum
  lacks_other None held h off = tt
  lacks_other (Some f) held h off = λ bytes is short same. off (ap sha1 (some_is held bytes (sym h ∙ is)) ∙ same)

  lacks_at : (v : Value) (found : Text) → IsSomeAnd v (λ bytes. sha1 bytes ≡ found) → found ≢ sum → (bytes : Text) → v ≡ Some bytes → ¬ (sha1 bytes ≡ sum)
  lacks_at None found h off bytes is same = absurd h
  lacks_at (Some held) found h off bytes is same = off (sym h ∙ ap sha1 (some_is held bytes is) ∙ same)

  long_at : (v : Value) (limit : ℕ) → IsSomeAnd v (λ bytes. limit < length bytes) → (bytes : Text) → v ≡ Some bytes → limit < length bytes
  long_at None limit h bytes is = absurd h
  long_at (Some held) limit h bytes is = subst (λ (t : Text). limit < length t) (some_is held bytes is) h

  pub lacks_long : (o : Option Content) (limit : ℕ) → limit ≡ 2 ^ 30 → IfSome o (λ f. IsSomeAnd (f name) (λ bytes. limit < length bytes)) → LacksSum o name sum
  lacks_long None limit is h = tt
  lacks_long (Some f) limit is h = λ bytes at short same. let long = long_at (f name) limit h bytes at in absurd (omega (arith, long, short, is))

  pub lacks_damaged : (o : Option Content) (found : Text) → IfSome o (λ f. IsSomeAnd (f name) (λ bytes. sha1 bytes ≡ found)) → found ≢ sum → LacksSum o name sum
  lacks_damaged None found h off = tt
  lacks_damaged (Some f) found h off = λ bytes is short same. lacks_at (f name) found h off bytes is same

  pub lacks_refused : (o : Option Content) (from : Text) → from ≡ name → (fault : GetFault) → PassCause o from sum fault → LacksSum o name sum
  lacks_refused o from is (SegmentName n) h = absurd h
  lacks_refused o from is (PathOutside n) h = absurd h
  lacks_refused o from is (StanzaMismatch k f) h = absurd h
  lacks_refused o from is (Ambiguous a b) h = absurd h
  lacks_refused o from is (SegmentDamaged known found) h =
      lacks_damaged o found.0 (subst (λ (n : Text). IfSome o (λ f. IsSomeAnd (f n) (λ bytes. sha1 bytes ≡ found.0))) is h.2) (λ e. h.1 (e ∙ sym h.0))
  lacks_refused o from is (TooLong n limit) h =
      lacks_long o limit h.1 (subst (λ (n : Text). IfSome o (λ f. IsSomeAnd (f n) (λ bytes. limit < length bytes))) is h.2)
