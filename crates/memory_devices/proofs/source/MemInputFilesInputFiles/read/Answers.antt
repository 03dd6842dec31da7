use Rattle.std.proofs.Common.{◌≡◌, ◌+◌, ◌++◌, ℕ, List, [], Some, take, drop, unwrap_or, sym, ◌∙◌, ap}
use Rattle.std.proofs.lemmas.List.{take-append-drop, drop-drop}
use Rattle.memory_devices.specs.Replay.{value_of}
use Rattle.memory_devices.proofs.source.MemInputFilesInputFiles.read.Goals as goal

-- a first part that was taken, and what is left after it
parted : (at n : ℕ) (bytes given : List ℕ) → given ≡ take n (drop at bytes) → given ++ drop (at + n) bytes ≡ drop at bytes
parted at n bytes given is = ap (λ (l : List ℕ). l ++ drop (at + n) bytes) is ∙ ap (λ (l : List ℕ). take n (drop at bytes) ++ l) (sym (drop-drop n at bytes)) ∙ take-append-drop n (drop at bytes)

pub returns-clause-gives : goal.returns-clause-gives
returns-clause-gives c =
    let n = c.copy_part-n.result in
    let at = c.args.self.now.at in
    let bytes = c.in-Some.bytes.items in
    let is : unwrap_or (value_of c.args.self.now.file) [] ≡ bytes = ap (λ f. unwrap_or (value_of f) []) c.in-Some.is in
    let given = take n c.copy_part-n.new.buf in
    let part : given ≡ take n (drop at bytes) = c.copy_part-n.ensures.part.part ∙ ap (λ (l : List ℕ). take n (drop at l)) c.deref.ensures.value in
    ap Some (ap (λ (l : List ℕ). given ++ drop (at + n) l) is ∙ parted at n bytes given part ∙ sym (ap (λ (l : List ℕ). drop at l) is))
