-- Workers that were started.
use Rattle.std.proofs.Common.{ℕ, zero, suc, ◌≡◌, ◌<◌, List, [], ◌∷◌, take, map, length, Option, Some, None, sym, ◌∙◌, ap, subst, arith, slice_get, length-take, length-append}
use Rattle.std.proofs.lemmas.List.{take-map, length-map}
use Rattle.base_devices.specs.Links.{LinkState}
use Rattle.worker_pool.specs.declared.dispatch.fault.Lost.{Lost}
use Rattle.worker_pool.specs.Run.{IsReady, Left, AllLost, begun}
use Rattle.cmd_backup_common.specs.Beginning.{AreLost}
use Rattle.cmd_backup_common.proofs.Links.{known_lost}

get_taken : {X : Type 0} (n : ℕ) (xs : List X) (i : ℕ) (x : X) → slice_get (take n xs) i ≡ Some x → slice_get xs i ≡ Some x
get_taken {X} zero [] i x is = is
get_taken {X} zero (y ∷ ys) i x is = absurd (let e : ◌≡◌ {A = Option X} None (Some x) = is in cc)
get_taken {X} (suc n) [] i x is = is
get_taken {X} (suc n) (y ∷ ys) zero x is = is
get_taken {X} (suc n) (y ∷ ys) (suc i) x is = get_taken n ys i x is

-- the first n links were kept
module _ {A : Type 0} (of : A → LinkState) (n : ℕ) (xs ys : List A) (is : ys ≡ take n xs) where
  used_is : map of ys ≡ take n (map of xs)
  used_is = ap (λ (l : List A). map of l) is ∙ sym (take-map of n xs)

  pub ready_taken : ((i : ℕ) (s : LinkState) → slice_get (map of xs) i ≡ Some s → IsReady s) → (i : ℕ) (s : LinkState) → slice_get (map of ys) i ≡ Some s → IsReady s
  ready_taken ready i s at = ready i s (get_taken n (map of xs) i s (ap (λ (l : List LinkState). slice_get l i) (sym used_is) ∙ at))

  module _ (before after : List Lost) (none : before ≡ []) where
    pub left_used : (now : List LinkState) → Left [] (map of ys) before after now → Left [] (take n (map of xs)) [] after now
    left_used now l = subst (λ (us : List LinkState). Left [] us [] after now) used_is (subst (λ (es : List Lost). Left [] (map of ys) es after now) none l)

    pub lost_used : (lost : ℕ) → AllLost [] (begun (map of ys) before) after → lost ≡ length after → AreLost (take n (map of xs)) lost
    lost_used lost all count = known_lost (take n (map of xs)) after lost
        (subst (λ (us : List LinkState). AllLost [] (begun us []) after) used_is (subst (λ (es : List Lost). AllLost [] (begun (map of ys) es) after) none all)) count

    pub few_lost : (most : ℕ) → length xs < most → AllLost [] (begun (map of ys) before) after → length after < most
    few_lost most few all = omega (arith, few, all.count, ap (λ (es : List Lost). length es) all.is, ap (λ (es : List Lost). length es) none, length-append before all.entries, length-map ys of, ap (λ (zs : List A). length zs) is, length-take n xs)
