use Rattle.std.proofs.Common.{◌∙◌, ap}
use Rattle.std.specs.Prelude.{[]}
use Rattle.base_model.specs.StanzaName.{is_stanza}
use Rattle.options_read.specs.Filled.{or_else}
use Rattle.program_run.proofs.InForce.{place_same}
use Rattle.program_run.proofs.Names.{folders_fit}
use Rattle.program_run.proofs.given.places_of.Goals as goal

pub invariant_of-result : goal.invariant_of-result
invariant_of-result c = let x = c.requires.command.1.options in
    record {
      form = ap is_stanza c.deref.ensures ∙ c.requires.form;
      short = folders_fit c.requires.command.0.source _ _ (c.path_of.ensures ∙ ap (or_else []) x.pg1_path) (c.deref-2.ensures ∙ x.repo1_path);
    }
