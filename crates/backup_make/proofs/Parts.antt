-- The parts of a backup's making, one after the other.
use Rattle.std.proofs.Common.{◌≡◌, List, Option, ◌∙◌, subst}
use Rattle.backup_sink.specs.declared.keeper.EndedItem.{EndedItem}
use Rattle.backup_make.specs.declared.backup_close.Closed.{Closed}
use Rattle.backup_make.specs.declared.draft.Draft.{Draft}
use Rattle.backup_make.specs.declared.draft_jobs.Fetched.{Fetched}
use Rattle.backup_make.specs.Online.{Online}
use Rattle.backup_make.specs.Staged.{IsClosedOf, fetched_draft, fetched_ends, closed_draft, closed_ends, closed_online}

-- the result of publishing, as what was fetched and closed states it
module _ (d : Draft) (f : Fetched) (o : Option Online) (c : Closed) (of : fetched_draft f ≡ d) (closed : IsClosedOf f o c) where
  pub draft_is : closed_draft c ≡ d
  draft_is = closed.draft_is ∙ of

  pub published : (P : Draft → Option Online → List (List EndedItem) → Type 0) → P (closed_draft c) (closed_online c) (closed_ends c) → P d o (fetched_ends f)
  published P h =
      subst (λ (x : Draft). P x o (fetched_ends f)) draft_is
      (subst (λ (x : Option Online). P (closed_draft c) x (fetched_ends f)) closed.online_is
      (subst (λ (x : List (List EndedItem)). P (closed_draft c) (closed_online c) x) closed.ends_are h))
