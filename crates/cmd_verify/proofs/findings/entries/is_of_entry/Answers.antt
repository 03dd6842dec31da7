use Rattle.base_model.specs.Values.{entry_of, manifest_of}
use Rattle.cmd_verify.proofs.Listed.{entry_parts, parts_of}
use Rattle.cmd_verify.proofs.findings.entries.is_of_entry.Goals as goal

pub returns-then-not-shows_same-clause-no : goal.returns-then-not-shows_same-clause-no
returns-then-not-shows_same-clause-no c = λ _ is.
    c.shows_same.ensures.no c.if-not-shows_same.true (parts_of c.args.history.now (entry_of c.args.entry.now) (manifest_of c.args.manifest.now) is)

pub returns-then-not-has_cluster-clause-no : goal.returns-then-not-has_cluster-clause-no
returns-then-not-has_cluster-clause-no c = λ _ is. c.has_cluster.ensures.no c.if-not-has_cluster.true is.cluster.0

pub returns-clause-yes : goal.returns-clause-yes
returns-clause-yes c = λ yes.
    entry_parts c.args.history.now (entry_of c.args.entry.now) (manifest_of c.args.manifest.now) (c.shows_same.ensures.yes c.if-not-shows_same.false)
    (c.has_cluster.ensures.yes c.if-not-has_cluster.false) (c.in_ok-same.ensures.yes yes)

pub returns-clause-no : goal.returns-clause-no
returns-clause-no c = λ no is. c.in_ok-same.ensures.no no is.references
