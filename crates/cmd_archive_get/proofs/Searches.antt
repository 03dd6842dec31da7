-- A file is looked for under the ids of a history, the last one first.
use Rattle.std.proofs.Common.{◌≡◌, ◌⊎◌, ⊎_elim, inl, inr, ℕ, ◌+◌, ◌<◌, List, [], ◌∷◌, ◌++◌, Option, Some, None, refl, sym, ap, ◌∙◌, subst, arith, map, length, append_assoc}
use Rattle.std.specs.Prelude.{IfSome}
use Rattle.sha1.specs.Sha1.{sha1}
use Rattle.base_devices.specs.Content.{Content}
use Rattle.base_model.specs.declared.clusters.ClusterId.{ClusterId}
use Rattle.base_model.specs.declared.wal.ArchiveName.{ArchiveName}
use Rattle.base_model.specs.Text.{Text, In}
use Rattle.base_model.specs.InfoFiles.{AreFrom}
use Rattle.repo_stanza.specs.declared.control.Control.{Control}
use Rattle.archive_lookup.specs.declared.stored.fault.ArchiveFault.{ArchiveFault}
use Rattle.archive_lookup.specs.declared.stored.fault.ArchiveFault.TheVariants.{Ambiguous as AmbiguousOf, SegmentDamaged as DamagedOf, TooLong as LongOf}
use Rattle.archive_lookup.specs.Stored.{StoresNone}
use Rattle.archive_lookup.specs.Causes.{StoresBytes, GetCause as ArchiveCause}
use Rattle.cmd_archive_get.specs.declared.fault.GetFault.{GetFault}
use Rattle.cmd_archive_get.specs.declared.fault.GetFault.TheVariants.{SegmentName, PathOutside, StanzaMismatch, Ambiguous, SegmentDamaged, TooLong}
use Rattle.cmd_types.specs.Current.{id_kept}
use Rattle.cmd_archive_get.specs.Getting.{IsSame, HasSame, NoneAbove, FoundIn, AbsentIn, RefusedIn}
use Rattle.cmd_archive_get.specs.Serving.{UnderCause, SearchCause}

-- ---- numbers

abbrev ids : List ClusterId → List ℕ
ids = map (λ (c : ClusterId). c.id)

within : (n : ℕ) (xs ys : List ClusterId) → AreFrom n (ids (xs ++ ys)) → (d : ClusterId) → In d xs → d.id < n + length xs
within n [] ys from d listed = absurd listed
within n (x ∷ xs) ys from d listed = ⊎_elim (λ (e : d ≡ x). omega (arith, ap (λ (c : ClusterId). c.id) e, from.0))
    (λ k. let h = within (n + 1) xs ys from.1 d k in omega (arith, h)) listed

number_at : (n : ℕ) (xs : List ClusterId) (c : ClusterId) (ys : List ClusterId) → AreFrom n (ids (xs ++ c ∷ ys)) → c.id ≡ n + length xs
number_at n [] c ys from = omega (arith, from.0)
number_at n (x ∷ xs) c ys from = let h = number_at (n + 1) xs c ys from.1 in omega (arith, h)

-- what comes before a cluster has a lower number
lower : (xs : List ClusterId) (c : ClusterId) (ys : List ClusterId) → AreFrom 1 (ids (xs ++ c ∷ ys)) → (d : ClusterId) → In d xs → d.id < c.id
lower xs c ys from d listed = omega (arith, within 1 xs (c ∷ ys) from d listed, number_at 1 xs c ys from)

in_parts : {X : Type 0} (x y : X) (xs ys : List X) → In x (xs ++ y ∷ ys) → In x xs ⊎ ((x ≡ y) ⊎ In x ys)
in_parts x y [] ys h = inr h
in_parts x y (z ∷ xs) ys h = ⊎_elim (λ (e : x ≡ z). inl (inl e)) (λ k. ⊎_elim (λ i. inl (inr i)) (λ i. inr i) (in_parts x y xs ys k)) h

in_middle : {X : Type 0} (y : X) (xs ys : List X) → In y (xs ++ y ∷ ys)
in_middle y [] ys = inl refl
in_middle y (z ∷ xs) ys = inr (in_middle y xs ys)

-- ---- what was looked at

module _ (stanza : Text) (known : Control) (name : ArchiveName) where
  -- the clusters after this one don't have the file
  above : (f : Content) (xs : List ClusterId) (c : ClusterId) (ys : List ClusterId) → AreFrom 1 (ids (xs ++ c ∷ ys)) → AbsentIn ys stanza known name f → NoneAbove (xs ++ c ∷ ys) stanza known name c f
  above f xs c ys from absent d listed same higher = ⊎_elim (λ k. let low = lower xs c ys from d k in absurd (omega (arith, low, higher)))
      (λ k. ⊎_elim (λ (e : d ≡ c). absurd (omega (arith, ap (λ (x : ClusterId). x.id) e, higher))) (λ i. absent.none d i same) k) (in_parts d c xs ys listed)

  one_more : (f : Content) (c : ClusterId) (ys : List ClusterId) → (IsSame known c → StoresNone stanza (id_kept c) name f) → AbsentIn ys stanza known name f → AbsentIn (c ∷ ys) stanza known name f
  one_more f c ys none absent = record { none = λ d listed same. ⊎_elim (λ (e : d ≡ c). subst (λ (x : ClusterId). StoresNone stanza (id_kept x) name f) (sym e) (none (subst (IsSame known) e same))) (λ i. absent.none d i same) listed }

  pub more_absent : (now : Option Content) (c : ClusterId) (ys : List ClusterId) → (IsSame known c → IfSome now (StoresNone stanza (id_kept c) name)) → IfSome now (AbsentIn ys stanza known name) → IfSome now (AbsentIn (c ∷ ys) stanza known name)
  more_absent None c ys none absent = tt
  more_absent (Some f) c ys none absent = one_more f c ys none absent

  module _ (history xs : List ClusterId) (c : ClusterId) (ys : List ClusterId) (is : history ≡ xs ++ c ∷ ys) (from : AreFrom 1 (ids history)) (same : IsSame known c) where
    from_parts : AreFrom 1 (ids (xs ++ c ∷ ys))
    from_parts = subst (λ (h : List ClusterId). AreFrom 1 (ids h)) is from

    pub listed_in : In c history
    listed_in = subst (λ (h : List ClusterId). In c h) (sym is) (in_middle c xs ys)

    pub above_in : (f : Content) → AbsentIn ys stanza known name f → NoneAbove history stanza known name c f
    above_in f absent = subst (λ (h : List ClusterId). NoneAbove h stanza known name c f) (sym is) (above f xs c ys from_parts absent)

    pub found_in : (now : Option Content) (bytes : Text) → IfSome now (AbsentIn ys stanza known name) → IfSome now (λ f. StoresBytes stanza (id_kept c) name f (sha1 bytes) bytes) → IfSome now (FoundIn history stanza known name bytes)
    found_in None bytes absent has = tt
    found_in (Some f) bytes absent has = record { cluster = c; listed = listed_in; same = same; above = above_in f absent; has = has }

    none_above : (now : Option Content) → IfSome now (AbsentIn ys stanza known name) → IfSome now (NoneAbove history stanza known name c)
    none_above None absent = tt
    none_above (Some f) absent = above_in f absent

    pub refused_in : (now : Option Content) (fault : ArchiveFault) → IfSome now (AbsentIn ys stanza known name) → ArchiveCause stanza (id_kept c) name now ⊥ fault → RefusedIn history stanza known name now fault
    refused_in now fault absent cause = record { cluster = c; listed = listed_in; same = same; above = none_above now absent; cause = cause }

  -- why a look under one id fails is why the search does
  pub cause_in : (history xs : List ClusterId) (c : ClusterId) (ys : List ClusterId) → history ≡ xs ++ c ∷ ys → AreFrom 1 (ids history) → (now : Option Content) → IfSome now (AbsentIn ys stanza known name) → (e : GetFault) →
      UnderCause c stanza known name now e → SearchCause history stanza known name now e
  cause_in history xs c ys is from now absent (SegmentName a) h = absurd h.0
  cause_in history xs c ys is from now absent (PathOutside a) h = absurd h.0
  cause_in history xs c ys is from now absent (StanzaMismatch a b) h = absurd h.0
  cause_in history xs c ys is from now absent (Ambiguous a b) h = refused_in history xs c ys is from h.1 now (AmbiguousOf a b) absent h.0
  cause_in history xs c ys is from now absent (SegmentDamaged a b) h = refused_in history xs c ys is from h.1 now (DamagedOf a b) absent h.0
  cause_in history xs c ys is from now absent (TooLong a b) h = refused_in history xs c ys is from h.1 now (LongOf a b) absent h.0

-- ---- whether there is one

pub has_same : (known : Control) (history xs : List ClusterId) (c : ClusterId) (ys : List ClusterId) → history ≡ xs ++ c ∷ ys → IsSame known c → HasSame history known
has_same known history xs c ys is same = (c, subst (λ (h : List ClusterId). In c h) (sym is) (in_middle c xs ys), same)

abbrev pub NoneSame : Control → List ClusterId → Type 0
NoneSame known ys = (c : ClusterId) → In c ys → ¬ IsSame known c

pub none_more : (known : Control) (c : ClusterId) (ys : List ClusterId) → ¬ IsSame known c → NoneSame known ys → NoneSame known (c ∷ ys)
none_more known c ys other none d listed same = ⊎_elim (λ (e : d ≡ c). other (subst (IsSame known) e same)) (λ i. none d i same) listed

pub none_same : (known : Control) (history ys : List ClusterId) → history ≡ ys → NoneSame known ys → ¬ HasSame history known
none_same known history ys is none h = none h.0 (subst (λ (l : List ClusterId). In h.0 l) is h.1) h.2

-- the parts of a list, as one more is looked at
pub parts_on : (history rest earlier : List ClusterId) (c : ClusterId) (ys : List ClusterId) → history ≡ rest ++ ys → rest ≡ earlier ++ c ∷ [] → history ≡ earlier ++ c ∷ ys
parts_on history rest earlier c ys is last = is ∙ ap (λ (l : List ClusterId). l ++ ys) last ∙ append_assoc earlier (c ∷ []) ys

pub none_left : {X : Type 0} (xs : List X) → length xs ≡ 0 → xs ≡ []
none_left [] is = refl
none_left (x ∷ xs) is = absurd (omega (arith, is))
