use Rattle.repo_names.proofs.Faultless.{in_folder}
use Rattle.repo_names.proofs.paths.names.check_name.Goals as goal

pub returns-clause-good : goal.returns-clause-good
returns-clause-good c =
    let same = in_folder c.args.path.now in
    let good = c.check_name_within.ensures.good in
    (λ ok. same.0 (good.0 ok), λ path. good.1 (same.1 path))
