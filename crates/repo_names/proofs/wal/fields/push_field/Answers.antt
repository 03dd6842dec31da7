use Rattle.std.proofs.Common.{◌++◌, ap, ◌∙◌, string_bytes}
use Rattle.hex.specs.Hex.{encode_upper}
use Rattle.repo_names.proofs.Hexadecimal.{encode_upper-word}
use Rattle.repo_names.proofs.wal.fields.push_field.Goals as goal

pub returns : goal.returns
returns c =
    let old = string_bytes c.args.text.now in
    let digits = c.as_str.ensures.value ∙ c.in_ok-digits.ensures ∙ ap encode_upper (c.as_slice.ensures ∙ c.to_be_bytes.ensures) ∙ encode_upper-word c.args.field in
    c.in_ok-push_str.ensures.bytes ∙ ap (λ d. old ++ d) digits
