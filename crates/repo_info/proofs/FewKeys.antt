-- A text within the limit has fewer keys than there are numbers of 32 bits.
use Rattle.std.proofs.Common.{ℕ, ◌<◌, ◌≤◌, ◌^◌, List, [], ◌∷◌, ◌++◌, length, arith, length-append, codes}
use Rattle.std.specs.List.{AllByRecursion, flat_map}
use Rattle.sha1.specs.Sha1.{sha1}
use Rattle.serde_json.specs.Written.{compact_text}
use Rattle.base_text.specs.Sum.{sum_text}
use Rattle.base_model.specs.Fields.{Field}
use Rattle.base_model.specs.InfoText.{Section, key_line, name_line, section_text, head, text_with, signed_text, info_text}
use Rattle.base_model.specs.InfoFiles.{info_limit}

keys_long : (ks : List Field) → length ks ≤ length (flat_map key_line ks)
keys_long [] = omega arith
keys_long (k ∷ ks) =
    let more = keys_long ks in
    omega (arith, more, length-append (key_line k) (flat_map key_line ks), length-append k.0 (61 ∷ (compact_text k.1 ++ 10 ∷ [])))

few_in : (n : ℕ) (ss : List Section) → length (flat_map section_text ss) ≤ n → AllByRecursion (λ (s : Section). length s.keys ≤ n) ss
few_in n [] h = tt
few_in n (s ∷ ss) h =
    let keys = keys_long s.keys in
    let whole = length-append (section_text s) (flat_map section_text ss) in
    let own = length-append (name_line s.name) (flat_map key_line s.keys ++ 10 ∷ []) in
    let body = length-append (flat_map key_line s.keys) (10 ∷ []) in
    (omega (arith, h, keys, whole, own, body), few_in n ss (omega (arith, h, whole)))

small : (ss : List Section) → AllByRecursion (λ (s : Section). length s.keys ≤ info_limit) ss → AllByRecursion (λ (s : Section). length s.keys < 2 ^ 32) ss
small [] h = tt
small (s ∷ ss) h = let few = h.0 in (omega (arith, few), small ss h.1)

pub few_keys : (ss : List Section) → length (info_text ss) ≤ info_limit → AllByRecursion (λ (s : Section). length s.keys < 2 ^ 32) ss
unfolding text_with
few_keys ss h =
    let whole = length-append (flat_map section_text (head ∷ ss)) (codes "[backrest]\nbackrest-checksum=\"" ++ (sum_text (sha1 (signed_text ss)) ++ 34 ∷ 10 ∷ [])) in
    let parts = length-append (section_text head) (flat_map section_text ss) in
    small ss (few_in info_limit ss (omega (arith, h, whole, parts)))
