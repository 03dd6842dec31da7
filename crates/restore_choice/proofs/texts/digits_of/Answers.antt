use Rattle.std.proofs.Common.{ap, ◌∙◌}
use Rattle.hex.specs.Hex.{encode_upper}
use Rattle.repo_names.proofs.Hexadecimal.{encode_upper-word}
use Rattle.restore_choice.proofs.texts.digits_of.Goals as goal

pub returns : goal.returns
returns c = c.in_ok-encode_upper.ensures ∙ ap encode_upper (c.as_slice.ensures ∙ c.to_be_bytes.ensures) ∙ encode_upper-word c.args.timeline
