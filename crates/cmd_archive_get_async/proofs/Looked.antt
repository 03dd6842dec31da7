-- Whether the spool has a fetched segment.
use Rattle.std.proofs.Common.{◌≡◌, ℕ, zero, suc, ◌<◌, List, [], ◌∷◌, ◌++◌, length, map, get_or, Option, Some, None, refl, ap, ◌∙◌, sym, subst, arith}
use Rattle.std.specs.Prelude.{All, IfSome, IsSome, IsTrue, Contains, string_bytes}
use Rattle.std.proofs.lemmas.List.Elements.{All-contains, All-map, Contains-append_right}
use Rattle.base_text.specs.Sum.{sum_text}
use Rattle.base_devices.specs.Content.{Name, Value, Content, IsListing, is_below}
use Rattle.base_devices.specs.declared.disk.Found.{Found}
use Rattle.base_disk.proofs.Dropped.{entry}
use Rattle.base_model.specs.declared.wal.Segment.{Segment}
use Rattle.base_model.specs.Text.{Text}
use Rattle.archive_lookup.specs.Listing.{sum_after}
use Rattle.archive_lookup.proofs.Looked.{sum_at, sum_is}
use Rattle.cmd_archive_get_async.specs.Names.{ahead_folder, ahead_prefix, ahead_name}
use Rattle.cmd_archive_get_async.specs.Taking.{IsAhead}
use Rattle.cmd_archive_get_async.proofs.Within.{name_below}

some_of : (P : Found → Type 0) (found : List Found) (k : ℕ) → k < length found → ((d : Found) → P (get_or found k d)) → (x : Found) × Contains (map entry found) (entry x) × P x
some_of P [] k lt h = absurd (omega (arith, lt))
some_of P (x ∷ xs) zero lt h = (x, (0, omega arith, refl), h x)
some_of P (x ∷ xs) (suc k) lt h = let r = some_of P xs k (omega (arith, lt)) h in (r.0, Contains-append_right (entry x ∷ []) (map entry xs) (entry r.0) r.1, r.2)

some_known : {X : Type 0} (o : Option X) → IsSome o → (x : X) × (o ≡ Some x)
some_known None some = cc
some_known (Some x) some = (x, refl)

module _ (stanza folder prefix : Text) (segment : Segment) (folder_is : folder ≡ ahead_folder stanza) (prefix_is : prefix ≡ ahead_prefix stanza segment) (found : List Found) where
  has_in : (f : Content) → IsListing folder f (map entry found) → (k : ℕ) → k < length found → ((d : Found) → IsSome (sum_after prefix (string_bytes (get_or found k d).name))) → IsAhead stanza segment f
  has_in f listing k lt some =
      let r = some_of (λ x. IsSome (sum_after prefix (string_bytes x.name))) found k lt some in
      let name = string_bytes r.0.name in
      let s = some_known (sum_after prefix name) r.2 in
      let is = sum_is prefix s.0 name s.1 in
      let there = (listing.each name r.0.size r.1).1 in
      let named : name ≡ ahead_name stanza segment s.0 = is.1 ∙ ap (λ (t : Text). t ++ sum_text s.0) prefix_is in
      (s.0, is.0, subst (λ (v : Value). IsSome v) (sym (ap f (sym named) ∙ there.1)) refl)

  pub has_by : (o : Option Content) → IfSome o (λ f. IsListing folder f (map entry found)) → ((k : ℕ) × (k < length found) × ((d : Found) → IsSome (sum_after prefix (string_bytes (get_or found k d).name)))) → IfSome o (IsAhead stanza segment)
  has_by None listing h = tt
  has_by (Some f) listing h = has_in f listing h.0 h.1 h.2

  lacks_in : (f : Content) → IsListing folder f (map entry found) → All (λ x. sum_after prefix (string_bytes x.name) ≡ None) found → ¬ IsAhead stanza segment f
  lacks_in f listing none h =
      let name = ahead_name stanza segment h.0 in
      let b = some_known (f name) h.2 in
      let within = listing.all name b.0 (subst (λ (t : Text). IsTrue (is_below t name)) (sym folder_is) (name_below stanza segment h.0)) b.1 in
      let off = All-contains (λ (p : Name × ℕ). sum_after prefix p.0 ≡ None) (map entry found) (name, length b.0) (All-map (λ (p : Name × ℕ). sum_after prefix p.0 ≡ None) entry found none) within in
      let on = sum_at prefix h.0 name h.1 (ap (λ (t : Text). t ++ sum_text h.0) (sym prefix_is)) in
      let u : ◌≡◌ {A = Option Text} None (Some h.0) = sym off ∙ on in
      cc

  pub lacks_by : (o : Option Content) → IfSome o (λ f. IsListing folder f (map entry found)) → All (λ x. sum_after prefix (string_bytes x.name) ≡ None) found → IfSome o (λ f. ¬ IsAhead stanza segment f)
  lacks_by None listing none = tt
  lacks_by (Some f) listing none = lacks_in f listing none
