use Rattle.std.proofs.Common.{◌<◌, ◌^◌, sym, subst}
use Rattle.base_model.specs.Values.{file_entry_of}
use Rattle.worker_protocol.specs.declared.frames.frames.Root.TheVariants.{Repo}
use Rattle.worker_protocol.specs.Frames.{IsItemPath}
use Rattle.restore_steps.proofs.Fitting.{fits_source}
use Rattle.restore_steps.proofs.sources.file_source.source_item.Goals as goal

pub returns-clause-fits : goal.returns-clause-fits
returns-clause-fits c =
    let fits = fits_source c.args.stanza.now c.requires.stanza c.args.own.now c.requires.own (file_entry_of c.args.file.now) c.requires.entry in
    record {
      path = subst (IsItemPath Repo) (sym c.in_ok-source_name.ensures) fits.path;
      at = subst (λ n. n < 2 ^ 64) (sym (c.source_start.ensures c.args.stanza.now c.args.own.now)) fits.at;
      size = fits.size;
    }
