-- How many bytes lie before an item.
use Rattle.std.proofs.Common.{◌≡◌, ◌+◌, ℕ, zero, suc, List, [], ◌∷◌, map, take, Option, Some, None, refl, sym, ◌∙◌, ap, arith, slice_get, option_map}
use Rattle.std.specs.Prelude.{option_and_then}
use Rattle.backup_sink.specs.declared.keeper.EndedItem.{EndedItem}
use Rattle.backup_sink.specs.Keeping.{total}
use Rattle.backup_record.specs.Sums.{sums}
use Rattle.backup_record.specs.Ends.{end_at, bytes_before}

sums_at : (n : ℕ) (es : List EndedItem) (i : ℕ) → slice_get (sums n es) i ≡ option_map (λ (e : EndedItem). n + total (take i es)) (slice_get es i)
sums_at n [] i = refl
sums_at n (e ∷ es) zero = ap (λ (k : ℕ). Some k) (omega arith)
sums_at n (e ∷ es) (suc i) =
    let more : (n + e.count) + total (take i es) ≡ n + (e.count + total (take i es)) = omega arith in
    sums_at (n + e.count) es i ∙ ap (λ (k : ℕ). option_map (λ (x : EndedItem). k) (slice_get es i)) more

-- where the item ended, and nowhere else
pub before_at : (ends : List (List EndedItem)) (job item : ℕ) → option_and_then (λ (s : List ℕ). slice_get s item) (slice_get (map (sums 0) ends) job) ≡ option_map (λ (e : EndedItem). bytes_before ends job item) (end_at ends job item)
before_at [] job item = refl
before_at (es ∷ ess) zero item = sums_at 0 es item ∙ ap (λ (k : ℕ). option_map (λ (x : EndedItem). k) (slice_get es item)) (omega arith)
before_at (es ∷ ess) (suc job) item = before_at ess job item

pub none_ended : (o : Option EndedItem) (k : ℕ) (r : Option ℕ) → r ≡ option_map (λ (e : EndedItem). k) o → r ≡ None → o ≡ None
none_ended None k r e is = refl
none_ended (Some x) k r e is = absurd (let b : ◌≡◌ {A = Option ℕ} (Some k) None = sym e ∙ is in cc)

pub some_before : (o : Option EndedItem) (k at : ℕ) (r : Option ℕ) → r ≡ option_map (λ (e : EndedItem). k) o → r ≡ Some at → at ≡ k
some_before None k at r e is = absurd (let b : ◌≡◌ {A = Option ℕ} None (Some at) = sym e ∙ is in cc)
some_before (Some x) k at r e is = let b : ◌≡◌ {A = Option ℕ} (Some k) (Some at) = sym e ∙ is in cc

sum_there : (places : List (List ℕ)) (ends : List (List EndedItem)) (known job item : ℕ) (r : Option ℕ) → places ≡ map (sums 0) ends → known ≡ job → r ≡ option_and_then (λ (s : List ℕ). slice_get s item) (slice_get places known) → r ≡ option_map (λ (e : EndedItem). bytes_before ends job item) (end_at ends job item)
sum_there places ends known job item r are same is =
    is ∙ ap (λ (n : ℕ). option_and_then (λ (s : List ℕ). slice_get s item) (slice_get places n)) same ∙ ap (λ (ps : List (List ℕ)). option_and_then (λ (s : List ℕ). slice_get s item) (slice_get ps job)) are ∙ before_at ends job item

pub none_there : (places : List (List ℕ)) (ends : List (List EndedItem)) (known job item : ℕ) (r : Option ℕ) → places ≡ map (sums 0) ends → known ≡ job → r ≡ option_and_then (λ (s : List ℕ). slice_get s item) (slice_get places known) → r ≡ None → end_at ends job item ≡ None
none_there places ends known job item r are same is none = none_ended (end_at ends job item) (bytes_before ends job item) r (sum_there places ends known job item r are same is) none

pub before_there : (places : List (List ℕ)) (ends : List (List EndedItem)) (known job item at : ℕ) (r : Option ℕ) → places ≡ map (sums 0) ends → known ≡ job → r ≡ option_and_then (λ (s : List ℕ). slice_get s item) (slice_get places known) → r ≡ Some at → at ≡ bytes_before ends job item
before_there places ends known job item at r are same is some = some_before (end_at ends job item) (bytes_before ends job item) at r (sum_there places ends known job item r are same is) some
