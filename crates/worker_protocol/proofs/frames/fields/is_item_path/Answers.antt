use Rattle.std.proofs.Common.{◌∙◌}
use Rattle.worker_protocol.specs.declared.frames.frames.Root.TheVariants.{DataFolder, Repo}
use Rattle.worker_protocol.specs.Frames.{repo_limit}
use Rattle.worker_protocol.specs.Reading.{is_item_path}
use Rattle.worker_protocol.proofs.ItemPaths.{is_path, agree}
use Rattle.worker_protocol.proofs.frames.fields.is_item_path.Goals as goal

pub returns-in-DataFolder : goal.returns-in-DataFolder
returns-in-DataFolder c =
    let path = c.args.path.now in
    let same = is_path DataFolder path in
    let good = c.check_name.ensures.good in
    rw c.in-DataFolder.is (c.is_ok.ensures.value ∙ agree _ (is_item_path DataFolder path) (λ ok. same.0 (good.0 ok)) (λ e. good.1 (same.1 e)))

pub returns-in-Repo : goal.returns-in-Repo
unfolding repo_limit
returns-in-Repo c =
    let path = c.args.path.now in
    let same = is_path Repo path in
    let good = c.check_name_within.ensures.good in
    rw c.in-Repo.is (c.is_ok-in-Repo.ensures.value ∙ agree _ (is_item_path Repo path) (λ ok. same.0 (good.0 ok)) (λ e. good.1 (same.1 e)))
