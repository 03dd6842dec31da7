use Rattle.std.proofs.Common.{refl, sym, ◌∙◌, ap, map, length, option_map, List}
use Rattle.std.proofs.lemmas.List.{length-map}
use Rattle.backup_plan.specs.declared.values.Taken as rust_taken
use Rattle.backup_plan.specs.Layout.{layout, jobs_of}
use Rattle.backup_plan.specs.Views.{taken_of}
use Rattle.base_model.specs.declared.labels.Entry as rust_entry
use Rattle.base_model.specs.Values.{Entry, entry_of, file_entry_of}
use Rattle.cmd_backup_common.specs.Priors.{prior_for, made_label}
use Rattle.cmd_backup_common.proofs.Priors.{may_follow_prior}
use Rattle.cmd_backup_common.proofs.drafts.any_draft.draft_ordered.Goals as goal

pub returns-clause-draft : goal.returns-clause-draft
returns-clause-draft c =
    let o = c.args.order.now in
    let old = map file_entry_of o.old.now in
    let files = c.deref-2.ensures.value in
    record {
      listing = c.requires.listing;
      control = c.requires.control;
      few = c.requires.few;
      plan = record {
        settings = o.settings;
        equal = c.args.equal.now;
        same = c.requires.same ∙ sym (length-map c.args.listing.files.items taken_of);
        choices = c.in_ok-plan.ensures.choices ∙ ap (λ (fs : List rust_taken.Taken). (layout o.settings old (map taken_of fs) c.args.equal.now).choices) files;
        singles = c.in_ok-plan.ensures.singles ∙ ap (λ (fs : List rust_taken.Taken). length (layout o.settings old (map taken_of fs) c.args.equal.now).singles) files;
        jobs = c.in_ok-plan.ensures.jobs ∙ ap (λ (fs : List rust_taken.Taken). jobs_of (layout o.settings old (map taken_of fs) c.args.equal.now)) files;
      };
      list = c.requires.list;
      follows = λ stop within. may_follow_prior o.kind c.args.second _ _ c.requires.list c.requires.next c.requires.cluster
          (c.labels_of-prior.ensures.own ∙ ap (λ (es : List rust_entry.Entry). made_label o.kind (prior_for o.kind c.args.cluster.id (map entry_of es)) c.args.second) c.deref.ensures.value)
          (c.labels_of-prior.ensures.prior ∙ ap (λ (es : List rust_entry.Entry). option_map (λ (e : Entry). e.label) (prior_for o.kind c.args.cluster.id (map entry_of es))) c.deref.ensures.value)
          refl refl within;
      old_order = c.requires.order;
      old_folders = c.requires.old.0;
      old = c.requires.old.1;
    }

pub returns-clause-ordered : goal.returns-clause-ordered
returns-clause-ordered c =
    let o = c.args.order.now in
    let old = map file_entry_of o.old.now in
    record {
      stanza_is = refl;
      label = c.labels_of-prior.ensures.own ∙ ap (λ (es : List rust_entry.Entry). made_label o.kind (prior_for o.kind c.args.cluster.id (map entry_of es)) c.args.second) c.deref.ensures.value;
      prior = c.labels_of-prior.ensures.prior ∙ ap (λ (es : List rust_entry.Entry). option_map (λ (e : Entry). e.label) (prior_for o.kind c.args.cluster.id (map entry_of es))) c.deref.ensures.value;
      old = refl;
      start = refl;
      cluster_is = refl;
      choices = refl;
      listing_is = refl;
      before_is = refl;
      planned = c.in_ok-plan.ensures.choices ∙ ap (λ (fs : List rust_taken.Taken). (layout o.settings old (map taken_of fs) c.args.equal.now).choices) c.deref-2.ensures.value;
    }
