use Rattle.std.proofs.Common.{◌∙◌, subst}
use Rattle.std.specs.Prelude.{IfSome}
use Rattle.base_model.specs.Text.{Text}
use Rattle.base_model.specs.ManifestText.{IsManifestText}
use Rattle.base_model.specs.Pair.{PairIs}
use Rattle.base_model.specs.Values.{manifest_of}
use Rattle.repo_manifest.proofs.manifest_files.load_manifest.Goals as goal

pub returns-clause-found : goal.returns-clause-found
returns-clause-found g c = subst (λ (n : Text). IfSome (g.D.Disk.state c.args.d.now).view.now (λ f. PairIs IsManifestText f n (manifest_of c.in_ok-stored.stored.0))) (c.as_str.ensures.value ∙ c.in-Ok.ensures) c.in_ok-stored.ensures.found
