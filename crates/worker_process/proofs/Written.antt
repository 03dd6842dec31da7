-- What several writes have written.
use Rattle.std.proofs.Common.{◌≡◌, ℕ, ◌+◌, List, [], ◌∷◌, ◌++◌, length, min, take, drop, Option, Some, None, option_map, refl, sym, ap, subst, ◌∙◌, append_assoc, arith}
use Rattle.std.specs.List.{flat_map}
use Rattle.std.proofs.Math.Seq.{take-add, take-append-add, take-length}
use Rattle.std.proofs.lemmas.List.{take-append-le, take_min}
use Rattle.std.proofs.lemmas.Grind.{flat_map-append}
use Rattle.base_model.specs.Text.{Text}
use Rattle.worker_protocol.specs.Frames.{Frame, spell}
use Rattle.worker_process.specs.Writing.{IsWritten, IsPrefixWritten}

abbrev pub more : Text → Option Text → Option Text
more added = option_map (λ text. text ++ added)

pub twice : (old : Option Text) (a b : Text) → more b (more a old) ≡ more (a ++ b) old
twice None a b = refl
twice (Some t) a b = ap (λ (x : Text). Some x) (append_assoc t a b)

-- one write more of some bytes
pub more_written : (old mid new : Option Text) (bytes : Text) (at n next : ℕ) → mid ≡ more (take at bytes) old → new ≡ more (take n (drop at bytes)) mid → next ≡ at + n → new ≡ more (take next bytes) old
more_written old mid new bytes at n next first then is =
    then ∙ ap (more (take n (drop at bytes))) first ∙ twice old (take at bytes) (take n (drop at bytes)) ∙ ap (λ (t : Text). more t old) (sym (take-add at n bytes)) ∙ ap (λ (k : ℕ). more (take k bytes) old) (sym is)

pub written_more : (old mid new : Option Text) (a b : Text) → IsWritten old a mid → IsWritten mid b new → IsWritten old (a ++ b) new
written_more old mid new a b first then = then ∙ ap (more b) first ∙ twice old a b

-- a first part of what comes next
pub prefix_after : (old mid new : Option Text) (a b c : Text) → IsWritten old a mid → IsPrefixWritten mid b new → IsPrefixWritten old (a ++ (b ++ c)) new
prefix_after old mid new a b c first then =
    let n = min then.count (length b) in
    record {
      count = length a + n;
      is = written_more old mid new a (take then.count b) first then.is
          ∙ ap (λ (t : Text). more (a ++ t) old) (sym (take_min then.count b) ∙ sym (take-append-le n b c (omega arith)))
          ∙ ap (λ (t : Text). more t old) (sym (take-append-add a (b ++ c) n));
    }

pub frames_more : (old mid new : Option Text) (shown frames : List Frame) → IsWritten old (flat_map spell shown) mid → IsWritten mid (flat_map spell frames) new → IsWritten old (flat_map spell (shown ++ frames)) new
frames_more old mid new shown frames first then = written_more old mid new (flat_map spell shown) (flat_map spell frames) first then ∙ ap (λ (t : Text). more t old) (sym (flat_map-append spell shown frames))

pub frames_prefix : (old mid new : Option Text) (shown frames others whole : List Frame) → whole ≡ shown ++ (frames ++ others) → IsWritten old (flat_map spell shown) mid → IsPrefixWritten mid (flat_map spell frames) new → IsPrefixWritten old (flat_map spell whole) new
frames_prefix old mid new shown frames others whole is first then =
    subst (λ (t : Text). IsPrefixWritten old t new)
    (sym (ap (flat_map spell) is ∙ flat_map-append spell shown (frames ++ others) ∙ ap (λ (t : Text). flat_map spell shown ++ t) (flat_map-append spell frames others)))
    (prefix_after old mid new (flat_map spell shown) (flat_map spell frames) (flat_map spell others) first then)

nil : (t : Text) → t ≡ t ++ []
nil [] = refl
nil (x ∷ t) = ap (λ (l : Text). x ∷ l) (nil t)

pub none_written : (o : Option Text) → IsWritten o [] o
none_written None = refl
none_written (Some t) = ap (λ (x : Text). Some x) (nil t)

pub nothing_written : (o : Option Text) → IsPrefixWritten o [] o
nothing_written o = record { count = 0; is = none_written o }

pub whole_prefix : (old new : Option Text) (bytes : Text) → IsWritten old bytes new → IsPrefixWritten old bytes new
whole_prefix old new bytes is = record { count = length bytes; is = is ∙ ap (λ (t : Text). more t old) (sym (take-length bytes)) }
