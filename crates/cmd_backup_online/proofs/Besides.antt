-- A running server's backup keeps to its stanza.
use Rattle.std.proofs.Common.{◌≡◌, Bool, Option, ◌∙◌, ap, subst}
use Rattle.std.specs.Prelude.{IfSome}
use Rattle.base_devices.specs.Moments.{View, LeavesNoMore}
use Rattle.base_model.specs.Text.{Text}
use Rattle.base_crash_lists.specs.Beside.{StaysBeside}
use Rattle.base_crash_lists.proofs.Stays.{rests_beside, beside_on}
use Rattle.archive_lookup.specs.Stored.{ChangesArchive}
use Rattle.backup_make.specs.declared.draft.Draft.{Draft}
use Rattle.backup_make.specs.Draft.{stanza_of}
use Rattle.archive_lookup.specs.Turns.{Account}
use Rattle.archive_wait.specs.TurnsDone.{TurnsDone}
use Rattle.cmd_types.proofs.Besides.{archive_beside}
use Rattle.cmd_backup_online.proofs.Doings.{with_account}

-- the draft was staged while the server was in its backup
module _ (stanza : Text) (a b t s : View) (rests : LeavesNoMore a b) (now_same : b.now ≡ a.now) (talked : StaysBeside stanza b t) (d : Draft) (stanza_is : stanza_of d ≡ stanza) (closed : StaysBeside (stanza_of d) t s) where
  pub staged_beside : StaysBeside stanza a s
  staged_beside = beside_on stanza a b s (rests_beside stanza a b rests now_same) (beside_on stanza b t s talked (subst (λ (x : Text). StaysBeside x t s) stanza_is closed))

  -- then steps of others were waited for
  module _ (whole : Bool) (old account : Option Account) (w spool spool2 : View) (went : IfSome account (λ k. TurnsDone whole old k s w spool spool2)) where
    waited : (k : Account) → TurnsDone whole old k s w spool spool2 → k.stanza ≡ stanza → StaysBeside stanza a w
    waited k x of = beside_on stanza a s w staged_beside (archive_beside stanza s w (subst (λ (y : Text). ChangesArchive y s w) of x.repo_only))

    pub waited_beside : IfSome account (λ k. k.stanza ≡ stanza → StaysBeside stanza a w)
    waited_beside = with_account account (λ k. TurnsDone whole old k s w spool spool2) _ went waited

    -- and the draft was listed, or wasn't
    pub listed_beside : (e : View) (of : Draft) → of ≡ d → StaysBeside (stanza_of of) w e → IfSome account (λ k. k.stanza ≡ stanza → StaysBeside stanza a e)
    listed_beside e of is beside = with_account account (λ k. TurnsDone whole old k s w spool spool2) _ went (λ k x same. beside_on stanza a w e (waited k x same)
        (subst (λ (y : Text). StaysBeside y w e) (ap stanza_of is ∙ stanza_is) beside))
