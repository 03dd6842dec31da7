use Rattle.std.proofs.Common.{◌≡◌, ℕ, suc, ◌+◌, ◌≤◌, cond, map, Bool, true, false, string_bytes, length, List, [], ◌∷◌, refl, ap, ◌∙◌, arith}
use Rattle.std.specs.Prelude.{not, if◌then◌else◌, insert}
use Rattle.std.specs.List.{position_or_len}
use Rattle.base_devices.specs.Order.{is_before}
use Rattle.base_model.specs.declared.files.FileEntry as rust
use Rattle.base_model.specs.Values.{FileEntry, file_entry_of}
use Rattle.backup_record.specs.Further.{put_in}
use Rattle.backup_record.proofs.further_file.put_in.Goals as goal

abbrev test : List ℕ → rust.FileEntry → Bool
test path = λ e. is_before path (string_bytes e.path)

at_most : (b : Bool) (n len : ℕ) → n ≤ len → cond (not b) (1 + n) 0 ≤ suc len
at_most true n len h = omega arith
at_most false n len h = omega arith

within : (path : List ℕ) (xs : List rust.FileEntry) → position_or_len (test path) xs ≤ length xs
within path [] = omega arith
within path (x ∷ xs) = at_most (test path x) (position_or_len (test path) xs) (length xs) (within path xs)

step : (b : Bool) (n : ℕ) (x y : rust.FileEntry) (ys : List rust.FileEntry) (more : List FileEntry) → map file_entry_of (insert ys n x) ≡ more
    → map file_entry_of (insert (y ∷ ys) (cond (not b) (1 + n) 0) x) ≡ (if b then file_entry_of x ∷ file_entry_of y ∷ map file_entry_of ys else file_entry_of y ∷ more)
step true n x y ys more h = refl
step false n x y ys more h = let e : 1 + n ≡ suc n = omega arith in rw e (ap (λ l. file_entry_of y ∷ l) h)

placed : (x : rust.FileEntry) (xs : List rust.FileEntry) → map file_entry_of (insert xs (position_or_len (test (string_bytes x.path)) xs) x) ≡ put_in (λ (e : FileEntry). e.path) (file_entry_of x) (map file_entry_of xs)
placed x [] = refl
placed x (y ∷ ys) = step (test (string_bytes x.path) y) (position_or_len (test (string_bytes x.path)) ys) x y ys (put_in (λ (e : FileEntry). e.path) (file_entry_of x) (map file_entry_of ys)) (placed x ys)

same_place : (path given : List ℕ) (xs items : List rust.FileEntry) → given ≡ path → items ≡ xs → position_or_len (test given) items ≡ position_or_len (test path) xs
same_place path given xs items e f = rw (e, f) refl

pub insert-requires : goal.insert-requires
insert-requires c =
    let at = c.place_of-at.ensures ∙ same_place (string_bytes c.args.file.path) _ c.args.files.now.items _ c.as_str.ensures.value c.deref.ensures.value in
    let most = within (string_bytes c.args.file.path) c.args.files.now.items in
    omega (arith, at, most, c.args.files.now.ok.0)

pub returns : goal.returns
returns c =
    let xs = c.args.files.now.items in
    let at = c.place_of-at.ensures ∙ same_place (string_bytes c.args.file.path) _ xs _ c.as_str.ensures.value c.deref.ensures.value in
    ap (map file_entry_of) (c.in_ok-insert.ensures.items ∙ ap (λ n. insert xs n c.args.file) at) ∙ placed c.args.file xs
