-- The next part of an item, after the room for its head.
use Rattle.std.proofs.Common.{◌≡◌, inl, inr, ℕ, ◌+◌, ◌-◌, ◌≤◌, ◌++◌, length, take, drop, min, Option, Some, None, sym, ◌∙◌, ap, arith}
use Rattle.std.specs.Prelude.{IfSome}
use Rattle.std.proofs.lemmas.List.{length-take, take-append-le, take-take, take_all, drop-take, drop-drop, drop_at}
use Rattle.std.proofs.lemmas.Bool.{cases_lt}
use borrow.Rule.Slice.PartMut.{put_mid}
use Rattle.base_devices.specs.Content.{Value, Content}
use Rattle.base_model.specs.Text.{Text}
use Rattle.worker_protocol.specs.Frames.{Item, part_size}
use Rattle.worker_protocol.specs.Replies.{payload}
use Rattle.worker_process.specs.Answers.{Fills, FillsPart}

-- the first bytes after the head are those that were read
following : (room mid : Text) (k n : ℕ) → 5 ≤ length room → n ≤ length mid → take n (drop 5 (put_mid 5 k room mid)) ≡ take n mid
following room mid k n long fits =
    ap (take n) (drop_at (take 5 room) (mid ++ drop k (drop 5 room)) 5 (omega (arith, length-take 5 room)))
    ∙ take-append-le n mid (drop k (drop 5 room)) fits

drop_prefix : (known size : ℕ) (bytes : Text) → known ≤ size → drop known (take size bytes) ≡ take (size - known) (drop known bytes)
drop_prefix known size bytes fits = ap (λ (k : ℕ). drop known (take k bytes)) (omega arith) ∙ drop-take known (size - known) bytes

fewer : (n m : ℕ) (bytes : Text) → take (min m n) bytes ≡ take n (take m bytes)
fewer n m bytes =
    elim (cases_lt n m) [
      | inl lt ↦ ap (λ (k : ℕ). take k bytes) (omega arith) ∙ sym (take-take n m bytes (omega arith))
      | inr le ↦ ap (λ (k : ℕ). take k bytes) (omega arith) ∙ sym (take_all n (take m bytes) (omega (arith, length-take m bytes)))
    ]

part_is : (item : Item) (known wanted : ℕ) (bytes : Text) → known ≤ item.size → wanted ≡ min (item.size - known) 32768 → take wanted (drop (item.at + known) bytes) ≡ take part_size (drop known (payload item bytes))
unfolding part_size
part_is item known wanted bytes fits is =
    ap (λ (k : ℕ). take k (drop (item.at + known) bytes)) is
    ∙ fewer 32768 (item.size - known) (drop (item.at + known) bytes)
    ∙ ap (λ (t : Text). take 32768 (take (item.size - known) t)) (sym (drop-drop known item.at bytes))
    ∙ ap (take 32768) (sym (drop_prefix known item.size (drop item.at bytes) fits))

pub fills_after : (files : Option Content) (name : Text) (item : Item) (known wanted k : ℕ) (room mid : Text) (read : Option ℕ) → known ≤ item.size → wanted ≡ min (item.size - known) 32768 → length room ≡ 32773 → length mid ≡ wanted
    → IfSome read (λ n. n ≤ length mid) → IfSome files (λ f. Fills (f name) (item.at + known) mid read) → IfSome files (λ f. FillsPart (f name) item known (put_mid 5 k room mid) read)
fills_after None name item known wanted k room mid read fits is long whole within fills = tt
fills_after (Some f) name item known wanted k room mid read fits is long whole within fills = of_value (f name) read within fills
  where
    of_value : (v : Value) (read : Option ℕ) → IfSome read (λ n. n ≤ length mid) → Fills v (item.at + known) mid read → FillsPart v item known (put_mid 5 k room mid) read
    of_value None read within fills = fills
    of_value (Some bytes) None within fills = fills
    of_value (Some bytes) (Some n) within fills =
        following room mid k n (omega arith) within ∙ fills ∙ ap (λ (j : ℕ). take j (drop (item.at + known) bytes)) whole ∙ part_is item known wanted bytes fits is
