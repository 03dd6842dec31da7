use Rattle.std.proofs.Common.{rules, ◌≡◌, inl, inr, refl, Some, true, false}
use Rattle.base_model.specs.Values.{archive_info_of}
use Rattle.cmd_archive_get.proofs.Archived.{serves_archived, misses_archived}
use Rattle.cmd_archive_get.proofs.Left.{pair_left}
use Rattle.cmd_archive_get.proofs.Fetches.{serves, serves_only, misses}
use Rattle.cmd_archive_get.proofs.archive_get.get_file.Goals as goal

pub returns-in_err-serve_file-clause-changes : goal.returns-in_err-serve_file-clause-changes
returns-in_err-serve_file-clause-changes g c =
    let o = c.args.order.now in
    serves_only c.args.stanza.now o.folder.now o.word.now o.path.now (g.D.Disk.state c.args.repo.now).view.now (g.T.DataFolder.state c.args.tree.now).nodes o.name c.args.known.now o.inside.now o.wanted c.requires.shows o.below
    _ c.serve_file.ensures.changes

pub returns-then-branch-clause-got : goal.returns-then-branch-clause-got
returns-then-branch-clause-got g c =
    let o = c.args.order.now in
    let yes : c.in_ok-serve_file.field-0 ≡ true = search rules in (
      c.new.ensures.bytes,
      serves c.args.stanza.now o.folder.now o.word.now o.path.now (g.D.Disk.state c.args.repo.now).view.now (g.T.DataFolder.state c.args.tree.now).nodes o.name c.args.known.now o.inside.now o.wanted c.requires.shows o.below
          _ c.in_ok-serve_file.field-0 yes (c.in_ok-serve_file.ensures.puts (g.D.Disk.state c.args.repo.now).view.now (inl refl) c.requires.pair),
    )

pub returns-then-branch-clause-given : goal.returns-then-branch-clause-given
returns-then-branch-clause-given g c = λ s some now.
    let o = c.args.order.now in
    let repo = (g.D.Disk.state c.args.repo.now).view.now in
    let nodes = (g.T.DataFolder.state c.args.tree.now).nodes in
    let yes : c.in_ok-serve_file.field-0 ≡ true = search rules in
    serves_archived c.args.stanza.now o.folder.now o.word.now o.path.now repo nodes _ s some now
    (serves c.args.stanza.now o.folder.now o.word.now o.path.now repo nodes o.name c.args.known.now o.inside.now o.wanted c.requires.shows o.below
    _ c.in_ok-serve_file.field-0 yes (c.in_ok-serve_file.ensures.puts (g.D.Disk.state c.args.repo.now).view.now (inl refl) c.requires.pair))

pub returns-then-branch-clause-changes : goal.returns-then-branch-clause-changes
returns-then-branch-clause-changes g c =
    let o = c.args.order.now in
    serves_only c.args.stanza.now o.folder.now o.word.now o.path.now (g.D.Disk.state c.args.repo.now).view.now (g.T.DataFolder.state c.args.tree.now).nodes o.name c.args.known.now o.inside.now o.wanted c.requires.shows o.below
    _ c.serve_file.ensures.changes

pub returns-in_ok-from_str-clause-got : goal.returns-in_ok-from_str-clause-got
returns-in_ok-from_str-clause-got g c =
    let o = c.args.order.now in
    let no : c.in_ok-serve_file.field-0 ≡ false = search rules in (
      c.in_ok-from_str.ensures.ok,
      misses c.args.stanza.now o.folder.now o.word.now o.path.now (g.D.Disk.state c.args.repo.now).view.now (g.T.DataFolder.state c.args.tree.now).nodes o.name c.args.known.now o.inside.now o.wanted c.requires.shows o.below
          (g.T.DataFolder.state c.serve_file.new.tree).nodes c.in_ok-serve_file.field-0 no (c.in_ok-serve_file.ensures.puts (g.D.Disk.state c.args.repo.now).view.now (inl refl) c.requires.pair),
    )

pub returns-in_ok-from_str-clause-given : goal.returns-in_ok-from_str-clause-given
returns-in_ok-from_str-clause-given g c = λ s some now.
    let o = c.args.order.now in
    let repo = (g.D.Disk.state c.args.repo.now).view.now in
    let nodes = (g.T.DataFolder.state c.args.tree.now).nodes in
    let no : c.in_ok-serve_file.field-0 ≡ false = search rules in
    misses_archived c.args.stanza.now o.folder.now o.word.now o.path.now repo nodes s some now
    (misses c.args.stanza.now o.folder.now o.word.now o.path.now repo nodes o.name c.args.known.now o.inside.now o.wanted c.requires.shows o.below
    (g.T.DataFolder.state c.serve_file.new.tree).nodes c.in_ok-serve_file.field-0 no (c.in_ok-serve_file.ensures.puts (g.D.Disk.state c.args.repo.now).view.now (inl refl) c.requires.pair))

pub returns-then-branch-clause-lasts : goal.returns-then-branch-clause-lasts
returns-then-branch-clause-lasts g c = λ synced some alike f leaves.
    let o = c.args.order.now in
    let yes : c.in_ok-serve_file.field-0 ≡ true = search rules in
    let looks = c.serve_file.ensures.looks in
    let pair = pair_left c.args.stanza.now (g.D.Disk.state c.args.repo.now).view (g.D.Disk.state c.serve_file.new.repo).view looks.time looks.now alike some (archive_info_of c.args.info.now) c.requires.pair f leaves in (
      c.new.ensures.bytes,
      serves c.args.stanza.now o.folder.now o.word.now o.path.now (Some f) (g.T.DataFolder.state c.args.tree.now).nodes o.name c.args.known.now o.inside.now o.wanted c.requires.shows o.below
          _ c.in_ok-serve_file.field-0 yes (c.in_ok-serve_file.ensures.puts (Some f) (inr (synced, some, (f, refl, leaves))) pair),
    )

pub returns-in_ok-from_str-clause-lasts : goal.returns-in_ok-from_str-clause-lasts
returns-in_ok-from_str-clause-lasts g c = λ synced some alike f leaves.
    let o = c.args.order.now in
    let no : c.in_ok-serve_file.field-0 ≡ false = search rules in
    let looks = c.serve_file.ensures.looks in
    let pair = pair_left c.args.stanza.now (g.D.Disk.state c.args.repo.now).view (g.D.Disk.state c.serve_file.new.repo).view looks.time looks.now alike some (archive_info_of c.args.info.now) c.requires.pair f leaves in (
      c.in_ok-from_str.ensures.ok,
      misses c.args.stanza.now o.folder.now o.word.now o.path.now (Some f) (g.T.DataFolder.state c.args.tree.now).nodes o.name c.args.known.now o.inside.now o.wanted c.requires.shows o.below
          (g.T.DataFolder.state c.serve_file.new.tree).nodes c.in_ok-serve_file.field-0 no (c.in_ok-serve_file.ensures.puts (Some f) (inr (synced, some, (f, refl, leaves))) pair),
    )
