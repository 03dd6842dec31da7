use Rattle.std.proofs.Common.{◌∙◌, sym, map, string_bytes}
use Rattle.base_model.specs.Values.{file_entry_of}
use Rattle.restore_steps.proofs.Listing.{got, map_get}
use Rattle.restore_make.specs.Options.{recovery_of}
use Rattle.restore_make.proofs.Shows.{none_like, unlike, path_at}
use Rattle.restore_make.proofs.candidates.candidate_of.Goals as goal

pub returns-in-None-clause-none : goal.returns-in-None-clause-none
returns-in-None-clause-none c = none_like (recovery_of c.args.recovery.now) (map file_entry_of c.args.files.now) (string_bytes c.args.node.now.path) c.args.node.now.node (λ e i same. c.in-None.ensures.none e i (same ∙ sym c.deref.ensures))

pub returns-then-not-is_like-clause-none : goal.returns-then-not-is_like-clause-none
returns-then-not-is_like-clause-none c = λ e i like.
    let f = c.index-files-place.result in
    unlike (recovery_of c.args.recovery.now) (map file_entry_of c.args.files.now) c.in-Some.place (file_entry_of f) c.deref.result.now c.args.node.now.node c.requires c.in-Some.ensures.some
    (map_get file_entry_of c.args.files.now c.in-Some.place f (got c.args.files.now c.in-Some.place f c.in-Some.ensures.within c.index-files-place.is))
    (sym c.is_like.ensures ∙ c.if-not-is_like.true) e i (like.0 ∙ sym c.deref.ensures, like.1)

pub returns-clause-some : goal.returns-clause-some
returns-clause-some c =
    let f = c.index-files-place.result in
    let here = map_get file_entry_of c.args.files.now c.in-Some.place f (got c.args.files.now c.in-Some.place f c.in-Some.ensures.within c.index-files-place.is) in
    (here, (path_at (map file_entry_of c.args.files.now) c.in-Some.place (file_entry_of f) c.deref.result.now c.in-Some.ensures.some here ∙ c.deref.ensures, sym c.is_like.ensures ∙ c.if-not-is_like.false))
