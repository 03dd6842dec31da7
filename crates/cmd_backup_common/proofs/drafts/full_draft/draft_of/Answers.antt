use Rattle.std.proofs.Common.{refl, sym, ◌∙◌, ap, map, length, Bool, false, [], List}
use Rattle.std.proofs.lemmas.List.{length-map}
use Rattle.backup_plan.specs.declared.values.Taken as rust_taken
use Rattle.backup_plan.specs.declared.values.PlanSettings.{PlanSettings}
use Rattle.backup_plan.specs.Layout.{layout, jobs_of}
use Rattle.backup_plan.specs.Views.{taken_of}
use Rattle.cmd_backup_common.proofs.Latest.{may_follow}
use Rattle.cmd_backup_common.proofs.drafts.full_draft.draft_of.Goals as goal

pub returns-clause-draft : goal.returns-clause-draft
returns-clause-draft c =
    let plain : PlanSettings = record { delta = false; bundle = false; bundle_size = 0; bundle_limit = 0 } in
    let equal = c.deref-3.result.now in
    let files = c.deref-2.ensures.value in
    record {
      listing = c.requires.listing;
      control = c.requires.control;
      few = c.requires.few;
      plan = record {
        settings = plain;
        equal = equal;
        same = ap (λ (bs : List Bool). length bs) c.deref-3.ensures.value ∙ c.in_ok-equal.ensures ∙ ap (λ (fs : List rust_taken.Taken). length fs) c.deref.ensures.value ∙ sym (length-map c.args.listing.files.items taken_of);
        choices = c.in_ok-plan.ensures.choices ∙ ap (λ (fs : List rust_taken.Taken). (layout plain [] (map taken_of fs) equal).choices) files;
        singles = c.in_ok-plan.ensures.singles ∙ ap (λ (fs : List rust_taken.Taken). length (layout plain [] (map taken_of fs) equal).singles) files;
        jobs = c.in_ok-plan.ensures.jobs ∙ ap (λ (fs : List rust_taken.Taken). jobs_of (layout plain [] (map taken_of fs) equal)) files;
      };
      list = c.requires.list;
      follows = λ stop within. may_follow c.args.second _ _ c.requires.next c.requires.cluster refl refl refl refl within;
      old_order = refl;
      old_folders = [];
      old = λ e at. absurd at;
    }
