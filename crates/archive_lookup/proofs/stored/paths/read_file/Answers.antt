use Rattle.std.proofs.Common.{◌≡◌, ◌∷◌, ◌++◌, Bool, true, false, [], ap, ap₂, sym, ◌∙◌}
use Rattle.sha1.specs.Sha1.{sha1}
use Rattle.base_text.proofs.Digests.{IsSum-sha1}
use Rattle.base_text.proofs.Sums.{read-sum_text, read_sum-is}
use Rattle.base_text.specs.Sum.{read_sum}
use Rattle.base_model.specs.Text.{Text}
use Rattle.archive_lookup.proofs.OnePath.{file_cut, file_uncut, file_summed, file_unsummed, wal_kind}
use Rattle.archive_lookup.proofs.stored.paths.read_file.Goals as goal

pub returns-in_err-name-in-Some-clause-none : goal.returns-in_err-name-in-Some-clause-none
returns-in_err-name-in-Some-clause-none c =
    rw c.from_residual.ensures (λ name sum fits is e. let x = file_cut name sum c.in-Some.name.now c.in-Some.digits.now c.in-Some.ensures.value.1 (sym e ∙ c.in-Some.ensures.value.0) in c.in_err-name-in-Some.ensures.none name fits x.1)

pub returns-in_err-sum-in-Some-clause-none : goal.returns-in_err-sum-in-Some-clause-none
returns-in_err-sum-in-Some-clause-none c =
    rw c.from_residual-in_err-sum-in-Some.ensures (λ name sum fits is e.
    let x = file_cut name sum c.in-Some.name.now c.in-Some.digits.now c.in-Some.ensures.value.1 (sym e ∙ c.in-Some.ensures.value.0) in
    let none = c.in_err-sum-in-Some.ensures ∙ ap read_sum x.2 ∙ read-sum_text sum is in cc none)

pub returns-then-has_sum-clause-value : goal.returns-then-has_sum-clause-value
returns-then-has_sum-clause-value c =
    let sum = c.in_ok-sum-in-Some.sum.0 in
    let read = read_sum-is c.in-Some.digits.now sum (sym c.in_ok-sum-in-Some.ensures) in
    let x = file_summed c.in_ok-name-in-Some.name sum (sym c.has_sum.ensures ∙ c.if-has_sum.true) in
    (sum, read.1, c.in-Some.ensures.value.0 ∙ ap₂ (λ (a b : Text). a ++ 45 ∷ b) c.in_ok-name-in-Some.ensures.value read.0 ∙ sym x.0, sym x.1)

pub returns-else-has_sum-clause-none : goal.returns-else-has_sum-clause-none
returns-else-has_sum-clause-none c = λ name sum fits is e.
    let x = file_cut name sum c.in-Some.name.now c.in-Some.digits.now c.in-Some.ensures.value.1 (sym e ∙ c.in-Some.ensures.value.0) in
    let off : ◌≡◌ {A = Bool} true false = sym x.0 ∙ wal_kind name c.in_ok-name-in-Some.name (sym x.1 ∙ c.in_ok-name-in-Some.ensures.value) ∙ sym c.has_sum.ensures ∙ c.if-has_sum.false in cc

pub returns-in_err-name-in-None-clause-none : goal.returns-in_err-name-in-None-clause-none
returns-in_err-name-in-None-clause-none c =
    rw c.from_residual-in_err-name-in-None.ensures (λ name sum fits is e. c.in_err-name-in-None.ensures.none name fits (file_uncut name sum c.args.file.now e c.in-None.ensures.none).1)

pub returns-then-has_sum-2-clause-none : goal.returns-then-has_sum-2-clause-none
returns-then-has_sum-2-clause-none c = λ name sum fits is e.
    let x = file_uncut name sum c.args.file.now e c.in-None.ensures.none in
    let off : ◌≡◌ {A = Bool} false true = sym x.0 ∙ wal_kind name c.in_ok-name-in-None.name (sym x.1 ∙ c.in_ok-name-in-None.ensures.value) ∙ sym c.has_sum-in-None.ensures ∙ c.if-has_sum-2.true in cc

pub returns-else-has_sum-2-clause-value : goal.returns-else-has_sum-2-clause-value
returns-else-has_sum-2-clause-value c =
    let x = file_unsummed c.in_ok-name-in-None.name (sha1 []) (sym c.has_sum-in-None.ensures ∙ c.if-has_sum-2.false) in
    (sha1 [], IsSum-sha1 [], c.in_ok-name-in-None.ensures.value ∙ sym x.0, sym x.1)
