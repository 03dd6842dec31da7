use Rattle.std.proofs.Common.{map, refl, sym, ◌∙◌, subst, lit≤}
use Rattle.base_model.specs.Fields.{whole}
use Rattle.base_model.specs.ManifestText.{IsSegSize}
use Rattle.repo_ini.specs.Parts.{key_of}
use Rattle.repo_keys.proofs.Keyed.{one_number}
use Rattle.repo_manifest.proofs.log.size_at.Goals as goal

usual : IsSegSize 16777216
usual = (24, lit≤ tt, lit≤ tt, refl)

pub returns-in_default-clause-rules : goal.returns-in_default-clause-rules
returns-in_default-clause-rules c = usual

pub returns-in_default-clause-read : goal.returns-in_default-clause-read
returns-in_default-clause-read c = λ y h i. absurd (c.in_default.ensures.none y i)

pub returns-in-None-clause-rules : goal.returns-in-None-clause-rules
returns-in-None-clause-rules c = usual

pub returns-in-None-clause-read : goal.returns-in-None-clause-read
returns-in-None-clause-read c = λ y h i.
    let same = one_number (map key_of c.args.keys.now) c.args.key.now (whole c.in-Some.bytes) c.in-Some.bytes y c.requires c.in-Some.ensures.some refl i in
    absurd (c.in-None.ensures.none (subst IsSegSize (sym same) h))

pub returns-in-Some-read_seg_size-clause-rules : goal.returns-in-Some-read_seg_size-clause-rules
returns-in-Some-read_seg_size-clause-rules c = subst IsSegSize (sym c.in-Some-read_seg_size.ensures.value.0) c.in-Some-read_seg_size.ensures.value.1

pub returns-in-Some-read_seg_size-clause-read : goal.returns-in-Some-read_seg_size-clause-read
returns-in-Some-read_seg_size-clause-read c = λ y h i.
    c.in-Some-read_seg_size.ensures.value.0 ∙ one_number (map key_of c.args.keys.now) c.args.key.now (whole c.in-Some.bytes) c.in-Some.bytes y c.requires c.in-Some.ensures.some refl i
