use Rattle.base_model.specs.Values.{entry_of, manifest_of}
use Rattle.cmd_verify.proofs.Listed.{unlike_known, like_known}
use Rattle.cmd_verify.proofs.findings.entries.tell_unlike.Goals as goal

pub returns-in_ok-push : goal.returns-in_ok-push
returns-in_ok-push c =
    unlike_known c.args.name.now c.args.history.now (entry_of c.args.entry.now) (manifest_of c.args.manifest.now) c.args.found.now.items c.push.new.self.items c.in_ok-unlike.field-0
    (c.in_ok-like.ensures.no c.if-not-like.true) c.in_ok-unlike.ensures c.in_ok-push.ensures.items

pub returns-else-not-like : goal.returns-else-not-like
returns-else-not-like c =
    like_known c.args.name.now c.args.history.now (entry_of c.args.entry.now) (manifest_of c.args.manifest.now) c.args.found.now.items (c.in_ok-like.ensures.yes c.if-not-like.false)
