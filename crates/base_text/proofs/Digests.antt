-- A digest is a sum.
use Rattle.std.proofs.Common.{◌≡◌, ℕ, zero, suc, ◌*◌, ◌<◌, ◌/◌, ◌%◌, ◌^◌, List, [], ◌∷◌, ◌++◌, length, refl, arith, slice_index, length-append}
use Rattle.std.specs.Int.{w32, to_be_bytes, bytes_high_first, byte_at}
use Rattle.hex.specs.Hex.{IsBytes}
use Rattle.sha1.specs.Sha1.{sha1, digest_bytes, hash_after, padded_message}
use Rattle.base_text.specs.Sum.{IsSum}

bytes_cons : (b : ℕ) (xs : List ℕ) → b < 256 → IsBytes xs → IsBytes (b ∷ xs)
bytes_cons b xs h g zero = h
bytes_cons b xs h g (suc i) = g i

bytes_append : (xs ys : List ℕ) → IsBytes xs → IsBytes ys → IsBytes (xs ++ ys)
bytes_append [] ys h g = g
bytes_append (x ∷ xs) ys h g = bytes_cons x (xs ++ ys) (h 0) (bytes_append xs ys (λ i. h (suc i)) g)

word_len : (n : ℕ) → length (to_be_bytes w32 n) ≡ 4
word_len n = refl

mod_small : (x : ℕ) → x % 256 < 256
mod_small x = omega arith

byte_small : (k n : ℕ) → byte_at k n < 256
byte_small zero n = mod_small n
byte_small (suc k) n = mod_small (n / 256 ^ suc k)

high_first : (k n : ℕ) → IsBytes (bytes_high_first k n)
high_first zero n = λ i. omega arith
high_first (suc k) n = bytes_cons (byte_at k n) (bytes_high_first k n) (byte_small k n) (high_first k n)

word_bytes : (n : ℕ) → IsBytes (to_be_bytes w32 n)
word_bytes n = high_first 4 n

digest_len : (h : List ℕ) (n : ℕ) → length (digest_bytes h n) ≡ 4 * n
unfolding digest_bytes
digest_len h zero = refl
digest_len h (suc n) = let ih = digest_len h n in let w = word_len (slice_index h n) in omega (arith, length-append (digest_bytes h n) (to_be_bytes w32 (slice_index h n)))

digest_is_bytes : (h : List ℕ) (n : ℕ) → IsBytes (digest_bytes h n)
unfolding digest_bytes
digest_is_bytes h zero = λ i. omega arith
digest_is_bytes h (suc n) = bytes_append (digest_bytes h n) (to_be_bytes w32 (slice_index h n)) (digest_is_bytes h n) (word_bytes (slice_index h n))

pub IsSum-sha1 : (m : List ℕ) → IsSum (sha1 m)
unfolding sha1
IsSum-sha1 m = let h = hash_after (padded_message m) (length (padded_message m) / 64) in (digest_len h 5, digest_is_bytes h 5)
