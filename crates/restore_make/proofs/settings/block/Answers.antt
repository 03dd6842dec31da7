use Rattle.restore_make.specs.Options.{log_fetch_of}
use Rattle.restore_make.proofs.Lines.{block_is}
use Rattle.restore_make.proofs.settings.block.Goals as goal

pub returns : goal.returns
returns c = block_is (log_fetch_of c.args.fetch.now) c.new-lines.result.items c.extend_from_slice.new.self.items c.extend_from_slice-2.new.self.items c.extend_from_slice-3.new.self.items c.extend_from_slice-4.new.self.items c.add_lines.new.text.items c.new-lines.ensures.items
    c.in_ok-extend_from_slice.ensures.items c.in_ok-extend_from_slice-2.ensures.items c.in_ok-extend_from_slice-3.ensures.items c.in_ok-extend_from_slice-4.ensures.items c.in_ok-add_lines.ensures
