use Rattle.std.proofs.Common.{rules, ◌≡◌, map, true, false}
use Rattle.std.specs.List.{list_any}
use Rattle.std.proofs.lemmas.Result.{IfErr-weaker}
use Rattle.restore_steps.specs.Clearing.{seen_of}
use Rattle.cmd_restore.specs.Looking.{server_path, HoldingCause, SeenCause}
use Rattle.restore_choice.proofs.Halts.{halt_as}
use Rattle.cmd_restore.proofs.Listings.{is_at, path_in, path_not_in, not_running}
use Rattle.cmd_restore.proofs.folder_listing.check_folder.Goals as goal

pub returns-then-is_running-clause-cause : goal.returns-then-is_running-clause-cause
returns-then-is_running-clause-cause c =
    let yes : list_any (is_at server_path) c.args.seen.now ≡ true = search rules in
    path_in server_path c.args.seen.now yes

pub returns-clause-cause : goal.returns-clause-cause
returns-clause-cause c =
    let no : list_any (is_at server_path) c.args.seen.now ≡ false = search rules in
    let seen = map seen_of c.args.seen.now in
    IfErr-weaker c.check_holding.result _ _
    (halt_as (HoldingCause c.args.delta seen) (SeenCause c.args.delta seen) (λ _. ⊥) (λ _. ⊥) (not_running c.args.delta seen (path_not_in server_path c.args.seen.now no)) (λ o h. h))
    c.check_holding.ensures.cause
