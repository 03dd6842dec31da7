-- Bytes that are read in pieces, and sums of them.
use Rattle.std.proofs.Common.{◌≡◌, ◌⊎◌, inl, inr, ℕ, ◌+◌, ◌-◌, ◌≤◌, [], ◌++◌, length, take, min, replicate, Option, Some, None, refl, sym, ap, ◌∙◌, subst, arith, append_assoc, length-append}
use Rattle.std.specs.Prelude.{IfSome}
use Rattle.std.proofs.lemmas.Bool.{cases_lt}
use Rattle.std.proofs.Math.Seq.{take-append_seam}
use Rattle.std.proofs.lemmas.List.{append-nil, take_all, length-replicate, length-take-le}
use Rattle.base_devices.specs.Content.{Reads}
use Rattle.base_disk.proofs.Read.{prefix_more}
use Rattle.base_model.specs.Text.{Text}
use Rattle.repo_names.specs.Header.{BeginsWith}
use Rattle.archive_store.specs.ByteSource.{IsReadFrom, IsReadTo}

-- bytes that are known are those that were read
pub read_is : (model : Option Text) (first : Text) (count : ℕ) (read : Text) → IsReadFrom model first count read → (bytes : Text) → model ≡ Some bytes → read ≡ bytes
read_is None first count read is bytes e = cc
read_is (Some b) first count read is bytes e = let same : b ≡ bytes = cc in sym is.known ∙ same

-- what holds of the bytes that were read holds of those that are known
pub read_as_known : (model : Option Text) (first : Text) (count : ℕ) (read : Text) → IsReadFrom model first count read → (P : Text → Type 0) → P read → (bytes : Text) → model ≡ Some bytes → P bytes
read_as_known model first count read is P p bytes e = subst P (read_is model first count read is bytes e) p

pub known_as_known : (model : Option Text) (read : Text) → IfSome model (λ b. b ≡ read) → (P : Text → Type 0) → P read → IfSome model P
known_as_known None read is P p = tt
known_as_known (Some b) read is P p = subst P (sym is) p

-- what holds of all bytes holds of those that are known
pub known_all : (model : Option Text) (P : Text → Type 0) → ((bytes : Text) → P bytes) → IfSome model P
known_all None P each = tt
known_all (Some b) P each = each b

-- there are bytes that begin with the first ones and are this many
pub some_read : (model : Option Text) (first : Text) (count : ℕ) → IfSome model (BeginsWith first count) → length first ≤ count → (bytes : Text) × IsReadFrom model first count bytes
some_read None first count is within = let more = replicate (count - length first) 0 in (
  first ++ more,
  record {
    known = tt;
    begins = record {
      prefix = take-append_seam first more;
      whole = omega (arith, length-append first more, length-replicate {A = ℕ} (count - length first) 0);
    };
  },
)
some_read (Some b) first count is within = (b, record { known = refl; begins = is })

-- the first ones of bytes that are held, as many as a piece has
pub prefix_read : (bytes : Text) (n : ℕ) → n ≤ length bytes → BeginsWith (take n bytes) (length bytes) bytes
prefix_read bytes n within = record { prefix = ap (λ k. take k bytes) (length-take-le n bytes within); whole = refl }

pub prefix_long : (bytes : Text) (n : ℕ) → n ≡ min (length bytes) 65536 → (40 ≤ length (take n bytes)) ⊎ (length (take n bytes) ≡ length bytes)
prefix_long bytes n is =
    let within : n ≤ length bytes = omega (arith, is) in
    elim (cases_lt (length bytes) 65536) [
      | inl few ↦ inr (omega (arith, is, few, length-take-le n bytes within))
      | inr many ↦ inl (omega (arith, is, many, length-take-le n bytes within))
    ]

-- ---- one piece after the other

pub read_start : (model : Option Text) (first : Text) (count : ℕ) → IfSome model (BeginsWith first count) → length first ≤ count → IsReadTo model first first
read_start None first count is within = record { known = tt; prefix = ([], sym (append-nil first)) }
read_start (Some b) first count is within = record { known = (omega (arith, is.whole, within), sym is.prefix); prefix = ([], sym (append-nil first)) }

pub read_more : (model : Option Text) (first bytes new : Text) (at room n : ℕ) → length bytes ≡ at → IsReadTo model first bytes → IfSome model (λ b. Reads (Some b) at room new (Some n)) → n ≤ length new → IsReadTo model first (bytes ++ take n new)
read_more model first bytes new at room n is so_far reads fits =
    let next = bytes ++ take n new in
    let long : length next ≡ at + n = omega (arith, is, length-append bytes (take n new), length-take-le n new fits) in
    record {
      known = prefix_more model (λ (b : Text). Some b) bytes new next at n room (length next) reads
          (inr (subst (λ (k : ℕ). IfSome model (λ b. (k ≤ length b) × (bytes ≡ take k b))) is so_far.known)) is refl long;
      prefix = (so_far.prefix.0 ++ take n new, ap (λ t. t ++ take n new) so_far.prefix.1 ∙ append_assoc first so_far.prefix.0 (take n new));
    }

pub read_end : (model : Option Text) (first : Text) (count : ℕ) (bytes : Text) → IfSome model (BeginsWith first count) → IsReadTo model first bytes → length bytes ≡ count → IsReadFrom model first count bytes
read_end model first count bytes is so_far whole = record {
  known = all model is so_far.known;
  begins = record { prefix = ap (take (length first)) so_far.prefix.1 ∙ take-append_seam first so_far.prefix.0; whole = whole };
}
  where
    all : (model : Option Text) → IfSome model (BeginsWith first count) → IfSome model (λ b. (length bytes ≤ length b) × (bytes ≡ take (length bytes) b)) → IfSome model (λ b. b ≡ bytes)
    all None is known = tt
    all (Some b) is known = sym (known.1 ∙ take_all (length bytes) b (omega (arith, is.whole, whole)))
