-- When a backup pair's last cluster is still to come.
use Rattle.std.proofs.Common.{◌≡◌, ◌≢◌, ◌⊎◌, inl, inr, ℕ, zero, suc, ◌+◌, ◌-◌, ◌<◌, ◌≤◌, ◌^◌, List, [], ◌∷◌, ◌++◌, map, length, Option, Some, None, refl, ap, ◌∙◌, sym, subst, arith, length-append}
use Rattle.std.specs.Prelude.{IsSome, option_to_list, slice_get, Bool, true, false, not}
use Rattle.std.specs.List.{AllByRecursion}
use Rattle.std.proofs.lemmas.List.{length-map}
use Rattle.std.proofs.lemmas.Bool.{cases_lt}
use Rattle.base_model.specs.declared.clusters.ClusterId.{ClusterId}
use Rattle.base_model.specs.declared.clusters.Cluster.{Cluster}
use Rattle.base_model.specs.Text.{In}
use Rattle.base_model.specs.InfoFiles.{IsClusterId, IsCluster, AreFrom, IsArchiveInfo, IsBackupInfo}
use Rattle.base_model.specs.Repository.{identity_of}
use Rattle.base_model.specs.Values.{ArchiveInfo, BackupInfo, Entry}
use Rattle.repo_stanza.specs.Pairs.{identities, DifferFirst, HasPending}
use Rattle.repo_stanza.specs.Judging.{Validates, Without}
use Rattle.repo_stanza.proofs.Shorter.{last_number}

-- lists that are alike at each place are one
pub same_lists : {X : Type 0} (xs ys : List X) (k : ℕ) → length xs ≤ k → length ys ≤ k → ((n : ℕ) → n < k → slice_get xs n ≡ slice_get ys n) → xs ≡ ys
same_lists [] [] k h g all = refl
same_lists {X} [] (y ∷ ys) k h g all = let e : ◌≡◌ {A = Option X} None (Some y) = all zero (omega arith) in cc
same_lists {X} (x ∷ xs) [] k h g all = let e : ◌≡◌ {A = Option X} (Some x) None = all zero (omega arith) in cc
same_lists {X} (x ∷ xs) (y ∷ ys) k h g all =
    let e : ◌≡◌ {A = Option X} (Some x) (Some y) = all zero (omega arith) in
    let first : x ≡ y = cc in
    let rest = same_lists xs ys (k - 1) (omega arith) (omega arith) (λ n low. all (suc n) (omega (arith, low))) in
    ap (λ (z : X). z ∷ xs) first ∙ ap (λ (zs : List X). y ∷ zs) rest

-- lists that are alike at each place of the shorter one
prefix_same : (xs : List ClusterId) (earlier : List Cluster) (last : Cluster) → length earlier ≡ length xs → ((n : ℕ) → n < length xs → slice_get xs n ≡ slice_get (map identity_of (earlier ++ last ∷ [])) n) → xs ≡ map identity_of earlier
prefix_same [] [] last long all = refl
prefix_same [] (e ∷ es) last long all = absurd (omega (arith, long))
prefix_same (x ∷ xs) [] last long all = absurd (omega (arith, long))
prefix_same (x ∷ xs) (e ∷ es) last long all =
    let one : ◌≡◌ {A = Option ClusterId} (Some x) (Some (identity_of e)) = all zero (omega arith) in
    let first : x ≡ identity_of e = cc in
    let rest = prefix_same xs es last (omega (arith, long)) (λ n low. all (suc n) (omega (arith, low))) in
    ap (λ (z : ClusterId). z ∷ xs) first ∙ ap (λ (zs : List ClusterId). identity_of e ∷ zs) rest

-- the one after its end, and those before
prefix_agrees : (es : List Cluster) (last : Cluster) (n : ℕ) → n < length es → slice_get (map identity_of es) n ≡ slice_get (map identity_of (es ++ last ∷ [])) n
prefix_agrees [] last n low = absurd (omega (arith, low))
prefix_agrees (e ∷ es) last zero low = refl
prefix_agrees (e ∷ es) last (suc n) low = prefix_agrees es last n (omega (arith, low))

none_following : (es : List Cluster) → slice_get (map identity_of es) (length es) ≡ None
none_following [] = refl
none_following (e ∷ es) = none_following es

last_there : (es : List Cluster) (last : Cluster) → slice_get (map identity_of (es ++ last ∷ [])) (length es) ≡ Some (identity_of last)
last_there [] last = refl
last_there (e ∷ es) last = last_there es last

-- at a place that is counted from 1
at_place : {X : Type 0} (xs ys : List X) (n : ℕ) → slice_get xs ((n + 1) - 1) ≡ slice_get ys ((n + 1) - 1) → slice_get xs n ≡ slice_get ys n
at_place {X} xs ys n e = let same : (n + 1) - 1 ≡ n = omega arith in subst (λ (k : ℕ). slice_get xs k ≡ slice_get ys k) same e

of_place : {X : Type 0} (xs ys : List X) (n : ℕ) → slice_get xs n ≡ slice_get ys n → slice_get xs ((n + 1) - 1) ≡ slice_get ys ((n + 1) - 1)
of_place {X} xs ys n e = let same : n ≡ (n + 1) - 1 = omega arith in subst (λ (k : ℕ). slice_get xs k ≡ slice_get ys k) same e

-- the first place at which the histories differ
pub first_place : (xs ys : List ClusterId) (k : ℕ) → ((n : ℕ) → n < k → slice_get xs n ≡ slice_get ys n) → slice_get xs k ≢ slice_get ys k → DifferFirst (k + 1) xs ys
first_place xs ys k all here = record {
  counted = omega arith;
  earlier = λ n low high. all (n - 1) (omega (arith, low, high));
  here = λ e. here (at_place xs ys k e);
}

module _ (a : ArchiveInfo) (b : BackupInfo) where
  module _ (p : HasPending a b) where
    long : length a.history ≡ length p.earlier
    long = ap length p.same ∙ length-map p.earlier identity_of

    pub pending_one : length b.history ≡ length a.history + 1
    pending_one = omega (arith, ap length p.whole, length-append p.earlier (p.last ∷ []), long)

    pub pending_number : IsBackupInfo b → p.last.id ≡ length b.history
    pending_number rules =
        let n = last_number p.earlier p.last 1 (subst (λ (cs : List Cluster). AreFrom 1 (map (λ (c : Cluster). c.id) cs)) p.whole rules.numbers) in
        omega (arith, n, ap length p.whole, length-append p.earlier (p.last ∷ []))

    pub pending_current : IsBackupInfo b → b.current ≡ length b.history
    pending_current rules = p.current ∙ pending_number rules

    pub pending_unused : IsBackupInfo b → (e : Entry) → In e b.backups → e.db ≢ b.current
    pending_unused rules e at same = p.unused e at (same ∙ p.current)

    -- the histories differ first after the end of the archive pair's
    pub pending_place : (k : ℕ) → DifferFirst (k + 1) a.history (identities b) → k ≡ length a.history
    pending_place k d = elim (cases_lt k (length a.history)) [
      | inl low ↦ absurd (d.here (of_place a.history (identities b) k (agree k low)))
      | inr high ↦ elim (cases_lt (length a.history) k) [
        | inl over ↦
            let same = at_place a.history (identities b) (length a.history) (d.earlier (length a.history + 1) (omega arith) (omega (arith, over))) in
            let e : ◌≡◌ {A = Option ClusterId} None (Some (identity_of p.last)) = sym none ∙ same ∙ there in absurd (no e)
        | inr under ↦ omega (arith, high, under)
      ]
    ]
      where
        agree : (n : ℕ) → n < length a.history → slice_get a.history n ≡ slice_get (identities b) n
        agree n low = ap (λ (xs : List ClusterId). slice_get xs n) p.same ∙ prefix_agrees p.earlier p.last n (omega (arith, low, long)) ∙ ap (λ (cs : List Cluster). slice_get (map identity_of cs) n) (sym p.whole)

        none : slice_get a.history (length a.history) ≡ None
        none = ap (λ (xs : List ClusterId). slice_get xs (length a.history)) p.same ∙ ap (λ (n : ℕ). slice_get (map identity_of p.earlier) n) long ∙ none_following p.earlier

        there : slice_get (identities b) (length a.history) ≡ Some (identity_of p.last)
        there = ap (λ (cs : List Cluster). slice_get (map identity_of cs) (length a.history)) p.whole ∙ ap (λ (n : ℕ). slice_get (map identity_of (p.earlier ++ p.last ∷ [])) n) long ∙ last_there p.earlier p.last

        no : ◌≡◌ {A = Option ClusterId} None (Some (identity_of p.last)) → ⊥
        no e = cc

  -- what was found is a cluster that is still to come
  pub settles_without : (w : BackupInfo) (last : Cluster) (k : ℕ) → IsBackupInfo b → DifferFirst (k + 1) a.history (identities b) → k ≡ length a.history → length b.history ≡ length a.history + 1 → b.current ≡ length b.history → ((e : Entry) → In e b.backups → e.db ≢ b.current)
      → b.history ≡ w.history ++ last ∷ [] → w.current ≡ length w.history → w.backups ≡ b.backups → Validates a b w
  settles_without w last k rules d at one current unused whole w_current backups =
      let count : length w.history ≡ length a.history = omega (arith, one, ap length whole, length-append w.history (last ∷ [])) in
      let number = last_number w.history last 1 (subst (λ (cs : List Cluster). AreFrom 1 (map (λ (c : Cluster). c.id) cs)) whole rules.numbers) in
      let is_last : b.current ≡ last.id = omega (arith, current, number, ap length whole, length-append w.history (last ∷ [])) in
      let same = prefix_same a.history w.history last count (λ n low. at_place a.history _ n (d.earlier (n + 1) (omega arith) (omega (arith, low, at))) ∙ ap (λ (cs : List Cluster). slice_get (map identity_of cs) n) whole) in
      let p : HasPending a b = record { earlier = w.history; last = last; whole = whole; same = same; current = is_last; unused = λ e i x. unused e i (x ∙ sym is_last) } in
      let r : ◌≡◌ {A = BackupInfo} (record { current = w.current; history = w.history; backups = w.backups }) (record { current = length w.history; history = w.history; backups = b.backups }) = rw (w_current, backups) refl in
      Without p r

-- numbers of 32 bits count few clusters
few : {X : Type 0} (Is : X → Type 0) (id : X → ℕ) → ((x : X) → Is x → id x < 2 ^ 32) → (xs : List X) (m : ℕ) → AllByRecursion Is xs → AreFrom m (map id xs) → 1 ≤ length xs → m + length xs ≤ 2 ^ 32
few Is id small [] m h from some = absurd (omega arith)
few Is id small (c ∷ []) m h from some = let is : id c ≡ m = from.0 in let low = small c h.0 in omega arith
few Is id small (c ∷ d ∷ cs) m h from some = let rest = few Is id small (d ∷ cs) (m + 1) h.1 from.1 (omega arith) in omega (arith, rest)

pub few_clusters : (b : BackupInfo) → IsBackupInfo b → length b.history < 2 ^ 32
few_clusters b h = let rest = few IsCluster (λ (c : Cluster). c.id) (λ c is. is.id) b.history 1 h.clusters h.numbers (omega (arith, h.current)) in omega (arith, rest)

few_identities : (a : ArchiveInfo) → IsArchiveInfo a → length a.history < 2 ^ 32
few_identities a h = let rest = few IsClusterId (λ (c : ClusterId). c.id) (λ c is. is.id) a.history 1 h.clusters h.numbers (omega (arith, h.current)) in omega (arith, rest)

pub place_fits : (a : ArchiveInfo) (b : BackupInfo) → IsArchiveInfo a → IsBackupInfo b → (k : ℕ) (xs : List ClusterId) (ys : List Cluster) → xs ≡ a.history → ys ≡ b.history → (k < length xs) ⊎ (k < length ys) → k + 1 < 2 ^ 32
place_fits a b h g k xs ys is is' (inl low) = omega (arith, low, ap length is, few_identities a h)
place_fits a b h g k xs ys is is' (inr low) = omega (arith, low, ap length is', few_clusters b g)

pub differ_as : (k : ℕ) (xs xs' : List ClusterId) (ys ys' : List Cluster) → xs ≡ xs' → ys ≡ ys' → DifferFirst k xs (map identity_of ys) → DifferFirst k xs' (map identity_of ys')
differ_as k xs xs' ys ys' is is' d = subst (λ (zs : List ClusterId). DifferFirst k zs (map identity_of ys')) is (subst (λ (zs : List Cluster). DifferFirst k xs (map identity_of zs)) is' d)

-- what a pop takes from a list that isn't empty
pub popped : (o : Option Cluster) (old new : List Cluster) → old ≡ new ++ option_to_list o → IsSome o → (last : Cluster) × (old ≡ new ++ last ∷ [])
popped None old new is some = cc
popped (Some x) old new is some = (x, is)

pub not_off : (b : Bool) → not b ≡ true → b ≡ false
not_off true h = cc
not_off false h = refl

pub not_on : (b : Bool) → not b ≡ false → b ≡ true
not_on true h = refl
not_on false h = cc
