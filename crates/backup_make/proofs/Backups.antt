-- The backup that a record describes, of what a draft's jobs gave.
use Rattle.std.proofs.Common.{◌≡◌, Bool, List, [], map, Option, Some, None, sym, ◌∙◌, ap, subst, arith}
use Rattle.std.specs.Prelude.{IfSome, IsSome, unwrap_or}
use Rattle.base_devices.specs.Content.{Content}
use Rattle.base_devices.specs.Moments.{View}
use Rattle.base_devices.specs.Links.{LinkState}
use Rattle.base_model.specs.declared.labels.Label.{Label}
use Rattle.base_model.specs.Text.{Map, In}
use Rattle.base_model.specs.Values.{BackupInfo, Manifest}
use Rattle.base_model.specs.Repository.{Backup, File, Stanza}
use Rattle.backup_plan.specs.Layout.{Layout, layout}
use Rattle.backup_plan.specs.Spots.{HaveItems}
use Rattle.backup_plan.proofs.Places.{have_items}
use Rattle.backup_record.specs.Making.{entry_with, backup_with, list_with, AreReferences, IsListWith}
use Rattle.backup_record.specs.Entries.{rows, file_of}
use Rattle.backup_record.specs.Further.{Further, with_name, with_kept, with_row}
use Rattle.backup_record.specs.Naming.{IsNaming}
use Rattle.backup_record.specs.Record.{PriorRead, HasPrior, IsListOf, Adds}
use Rattle.backup_record.proofs.Adding.{IsMadeOf, adds_none, adds_prior}
use Rattle.backup_record.proofs.Left.{OneManifest}
use Rattle.backup_record.proofs.Maps.{map_of}
use Rattle.backup_make.specs.declared.draft.Draft.{Draft}
use Rattle.backup_make.specs.Draft.{stanza_of, taken_in, folders_in, old_in, list_in, went_with, head_for, further_in, manifest_for, IsDraft, IsFree}
use Rattle.backup_make.specs.Made.{MakesOf}
use Rattle.backup_make.specs.Online.{Online}
use Rattle.backup_make.proofs.Completes.{are_named}
use Rattle.backup_make.proofs.Drafted.{names_held}
use Rattle.backup_make.proofs.LabelFile.{label_beside}

module _ (draft : Draft) (is_draft : IsDraft draft) (o : Option Online) (free : IfSome o (λ _. IsFree draft)) (links : List LinkState) (whole : Bool) (a d : View) (known : IsSome a.now) (makes : MakesOf draft o links whole a d)
    (s : Stanza) (list_of : IsListOf s (list_in draft)) where
  abbrev l : Layout
  l = layout is_draft.plan.settings (old_in draft) (taken_in draft) is_draft.plan.equal

  -- the label file, where a server ran
  abbrev further : Option Further
  further = further_in draft o makes.stop

  have : HaveItems (old_in draft) l (taken_in draft) draft.plan.choices.items
  have = subst (λ (cs : List _). HaveItems (old_in draft) l (taken_in draft) cs) (sym is_draft.plan.choices) (have_items is_draft.plan.settings (old_in draft) (taken_in draft) is_draft.plan.equal is_draft.plan.same)

  named : IsNaming (stanza_of draft) draft.label makes.names (went_with draft makes.ends) l
  named = are_named draft is_draft o links whole a d makes

  made_of : IsMadeOf (stanza_of draft) makes.names makes.kept (head_for draft o makes.stop) (went_with draft makes.ends) l (taken_in draft) draft.plan.choices.items s
  made_of = record {
    are = makes.are;
    got = makes.got known;
    named = named;
    have = have;
    order = is_draft.listing.file_order;
    cluster = subst (λ (v : BackupInfo). In draft.cluster v.history) list_of (is_draft.follows 0 (omega arith)).cluster;
    count = names_held draft is_draft makes.names makes.names_are makes.ends makes.kept makes.are makes.come;
  }

  abbrev listed : IsListWith (list_in draft) (manifest_for draft o makes.ends makes.stop) makes.list
  listed = record {
    references = makes.listed.references;
    are = subst (λ (m : Manifest). AreReferences (list_in draft).backups m.files makes.listed.references) makes.manifest_is makes.listed.are;
    is = makes.listed.is ∙ ap (λ (m : Manifest). list_with (entry_with m makes.listed.references) (list_in draft)) makes.manifest_is;
  }

  -- The backup. Files that were left have their bytes from these.
  abbrev pub made_backup : Map File → Backup
  made_backup files = backup_with makes.manifest makes.listed.references (map_of (map file_of (with_row further (rows (went_with draft makes.ends) files makes.kept (taken_in draft) draft.plan.choices.items))))

  abbrev AddsIt : Option PriorRead → Manifest → Backup → Type 0
  AddsIt prior m b = Adds (stanza_of draft) (with_name further makes.names) (with_kept further makes.kept) prior m makes.list s b

  by_manifest : (prior : Option PriorRead) (files : Map File) → AddsIt prior (manifest_for draft o makes.ends makes.stop) (backup_with (manifest_for draft o makes.ends makes.stop) makes.listed.references (made_backup files).files) → AddsIt prior makes.manifest (made_backup files)
  by_manifest prior files x = subst (λ (m : Manifest). AddsIt prior m (backup_with m makes.listed.references (made_backup files).files)) (sym makes.manifest_is) x

  -- it is that of a full backup
  pub adds_full : old_in draft ≡ [] → Adds (stanza_of draft) (with_name (further_in draft o makes.stop) makes.names) (with_kept (further_in draft o makes.stop) makes.kept) None makes.manifest makes.list s (made_backup (map_of []))
  adds_full none = by_manifest None (map_of [])
      (adds_none (stanza_of draft) makes.names makes.kept (head_for draft o makes.stop) (went_with draft makes.ends) l (taken_in draft) draft.plan.choices.items s made_of (folders_in draft) further (label_beside draft o free makes.stop)
      (list_in draft) makes.list list_of listed (map_of []) none)

  -- and of one with a prior, whose manifest was read
  pub adds_later : OneManifest → (p : Backup) (at : In p s.backups) (m : Manifest) (f : Content) → HasPrior (stanza_of draft) s (Some (record { label = p.entry.label; manifest = m })) f → draft.prior ≡ Some p.entry.label → old_in draft ≡ m.files
      → Adds (stanza_of draft) (with_name (further_in draft o makes.stop) makes.names) (with_kept (further_in draft o makes.stop) makes.kept) (Some (record { label = p.entry.label; manifest = m })) makes.manifest makes.list s (made_backup p.files)
  adds_later one_manifest p at m f has prior_is old_is = by_manifest (Some (record { label = p.entry.label; manifest = m })) p.files
      (adds_prior (stanza_of draft) makes.names makes.kept (head_for draft o makes.stop) (went_with draft makes.ends) l (taken_in draft) draft.plan.choices.items s made_of (folders_in draft) further (label_beside draft o free makes.stop)
      (list_in draft) makes.list list_of listed one_manifest p at m f has (ap (λ (o : Option Label). unwrap_or o draft.label) prior_is) old_is prior_is)
