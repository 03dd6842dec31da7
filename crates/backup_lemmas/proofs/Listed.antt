-- A backup of what was received, in a stanza whose list is the draft's: what a content represents in which it is
-- listed, and the way to it.
use Rattle.std.proofs.Common.{◌≡◌, ◌⊎◌, ◌<◌, Bool, true, List, [], map, Option, Some, None, refl, sym, ◌∙◌, ap, subst}
use Rattle.std.specs.Prelude.{IfSome, IsSome}
use Rattle.base_devices.specs.Content.{Content}
use Rattle.base_devices.specs.Moments.{View}
use Rattle.base_devices.specs.Links.{LinkState}
use Rattle.base_model.specs.declared.labels.Label.{Label}
use Rattle.base_model.specs.Text.{Text, Map, In}
use Rattle.base_model.specs.Values.{FileEntry, Manifest}
use Rattle.base_model.specs.Repository.{Backup, File, Stanza, IsSoundStanza, IsSoundBackup, HasItsSegments}
use Rattle.base_model.specs.Represents.{Represents, HasStanza, IsAncestor, IsListed}
use Rattle.base_model.specs.Steps.{AddBackup, changed}
use Rattle.base_model.specs.Steady.{IsSteady, EachImage}
use Rattle.backup_record.specs.Entries.{rows, prior_bytes, file_of}
use Rattle.backup_record.specs.Further.{with_name, with_kept, with_row}
use Rattle.backup_record.specs.Making.{backup_with}
use Rattle.backup_record.specs.Record.{PriorRead, HasPrior, IsListOf, Adds}
use Rattle.backup_record.proofs.Left.{OneManifest}
use Rattle.backup_record.proofs.Maps.{map_of}
use Rattle.backup_make.specs.declared.draft.Draft.{Draft}
use Rattle.backup_make.specs.Draft.{stanza_of, taken_in, old_in, pair_of, is_own_of, list_in, went_with, further_in, IsDraft, IsFree}
use Rattle.backup_make.specs.Made.{ListsIt, MakesOf}
use Rattle.backup_make.specs.Online.{Online}
use Rattle.backup_make.proofs.Backups.{adds_full, adds_later}
use Rattle.backup_make.proofs.Far.{far}
use Rattle.backup_make.proofs.Mixing.{mixed_none, mixed_prior}
use Rattle.backup_make.proofs.EachImage.{IsMixed, listed_represents, backup_moves, backup_steady}
use Rattle.backup_make.proofs.Sound.{backup_sound}
use Rattle.backup_make.proofs.Unlisted.{IsFar, synced_of}
use Rattle.repo_stanza.proofs.Settled.{OneList}
use Rattle.backup_lemmas.proofs.Based.{BasedOn, based_on, represents_there, its_label, its_db, has_prior, old_file, old_held}
use Rattle.backup_lemmas.proofs.Prior.{files_before, bytes_of, rows_same}
use Rattle.backup_lemmas.proofs.Reading.{backup_made, have}

module _ (one_list : OneList) (one_manifest : OneManifest) (draft : Draft) (is_draft : IsDraft draft) (o : Option Online) (free : IfSome o (λ _. IsFree draft)) (links : List LinkState) (a d : View) (based : BasedOn draft a draft.prior)
    (whole : Bool) (makes : MakesOf draft o links whole a d) (f : Content) (is_f : a.now ≡ Some f) (s : Stanza) (list : IsListOf s (list_in draft)) (has : HasStanza (stanza_of draft) f s) where
  abbrev b : Backup
  b = backup_made draft o links whole a d makes

  some : IsSome a.now
  some = subst (λ (n : Option Content). IsSome n) (sym is_f) refl

  apart : IsFar (stanza_of draft) (is_own_of draft) (pair_of draft) s
  apart = far one_manifest draft is_draft s list

  abbrev AddsIt : Option PriorRead → Backup → Type 0
  AddsIt prior x = Adds (stanza_of draft) (with_name (further_in draft o makes.stop) makes.names) (with_kept (further_in draft o makes.stop) makes.kept) prior makes.manifest makes.list s x

  -- ---- besides its prior backup

  -- with these files of the prior one
  abbrev made_from : Map File → Backup
  made_from files = backup_with makes.manifest makes.listed.references (map_of (map file_of (with_row (further_in draft o makes.stop) (rows (went_with draft makes.ends) files makes.kept (taken_in draft) draft.plan.choices.items))))

  same_made : (files : Map File) → ((e : FileEntry) → In e (old_in draft) → 0 < e.size → prior_bytes files e.path ≡ prior_bytes (files_before draft a.now) e.path) → made_from files ≡ b
  same_made files same =
      ap (λ (rs : List (FileEntry × Text)). backup_with makes.manifest makes.listed.references (map_of (map file_of (with_row (further_in draft o makes.stop) rs))))
      (rows_same (went_with draft makes.ends) makes.kept _ files (files_before draft a.now) same (taken_in draft) draft.plan.choices.items (have draft is_draft o free links whole a d makes))

  -- what is known with the prior backup's manifest that was read
  record Knows (prior : Option PriorRead) : Type 0 where
    pub adds : AddsIt prior b
    pub reads : HasPrior (stanza_of draft) s prior f
    pub mixes : IsSteady (stanza_of draft) (Some s) a → IsMixed (stanza_of draft) s prior a
    pub sound : IfSome b.entry.prior (λ l. (q : Backup) × In q s.backups × (q.entry.label ≡ l) × (q.entry.db ≡ b.entry.db))

  prior_as : (p : Option Label) → draft.prior ≡ p → makes.manifest.prior ≡ p
  prior_as p is = ap (λ (m : Manifest). m.prior) makes.manifest_is ∙ is

  knows : (prior : Option PriorRead) × Knows prior
  knows = by draft.prior refl based
    where
      by : (p : Option Label) → draft.prior ≡ p → BasedOn draft a p → (prior : Option PriorRead) × Knows prior
      by None is none = (
        None,
        record {
          adds = subst (λ (x : Backup). AddsIt None x) (same_made (map_of []) (λ e at filled. absurd (subst (λ (es : List FileEntry). In e es) none at))) (adds_full draft is_draft o free links whole a d some makes s list none);
          reads = record { has = has; reads = tt };
          mixes = λ steady. mixed_none (stanza_of draft) s a steady;
          sound = subst (λ (q : Option Label). IfSome q (λ l. (q : Backup) × In q s.backups × (q.entry.label ≡ l) × (q.entry.db ≡ b.entry.db))) (sym (prior_as None is)) tt;
        },
      )
      by (Some l) is base =
          let p = based_on one_manifest draft is_draft a l is base f is_f s list has in
          let label = its_label one_manifest draft is_draft a l is base f is_f s list has in
          let reads = has_prior one_manifest draft is_draft a l is base f is_f s list has in
          let at = represents_there one_manifest draft is_draft a l is base f is_f s list has in (
            Some (record { label = p.entry.label; manifest = base.manifest }),
            record {
              adds = subst (λ (x : Backup). AddsIt (Some (record { label = p.entry.label; manifest = base.manifest })) x)
                  (same_made p.files (λ e there filled. (
                  let x = old_file one_manifest draft is_draft a l is base f is_f s list has e there in
                  bytes_of p.files e.path x.0 x.1 ∙ sym (old_held one_manifest draft is_draft a l is base f is_f s list has e there filled)
                  )))
                  (adds_later draft is_draft o free links whole a d some makes s list one_manifest p at base.manifest f reads (is ∙ ap (λ (k : Label). Some k) (sym label)) base.old_is);
              reads = reads;
              mixes = λ steady. mixed_prior (stanza_of draft) s a steady base.law f is_f p.entry.label base.manifest reads.reads;
              sound = subst (λ (q : Option Label). IfSome q (λ l. (q : Backup) × In q s.backups × (q.entry.label ≡ l) × (q.entry.db ≡ b.entry.db))) (sym (prior_as (Some l) is))
                  (p, at, label, its_db one_manifest draft is_draft a l is base f is_f s list has ∙ sym (ap (λ (m : Manifest). m.cluster.id) makes.manifest_is));
            },
          )

  -- ---- it is sound

  -- where its segments are archived
  pub sound_backup : HasItsSegments s (backup_made draft o links whole a d makes) → IsSoundBackup s s.backups (backup_made draft o links whole a d makes)
  sound_backup segments = record {
    cluster = (makes.manifest.cluster, knows.1.adds.is.head.cluster.0, knows.1.adds.is.head.cluster.1);
    span = refl;
    prior = knows.1.sound;
    segments = segments;
  }

  -- and the stanza is sound with it
  pub sound_with : HasItsSegments s (backup_made draft o links whole a d makes) → IsSoundStanza s → IsSoundStanza (changed (AddBackup (backup_made draft o links whole a d makes)) s)
  sound_with segments sound = backup_sound s b sound (sound_backup segments)

  -- each label that it refers to is listed, and is that of its prior or of one before that
  pub references_stand : (l : Label) → In l (backup_made draft o links whole a d makes).entry.references → IsAncestor s.backups l (backup_made draft o links whole a d makes) × IsListed s.backups l
  references_stand l at = knows.1.adds.is.ancestors l at

  pub made_represents : (g : Content) → ListsIt draft o makes.manifest makes.list makes.names makes.kept makes.stop f g → HasStanza (stanza_of draft) g (changed (AddBackup (backup_made draft o links whole a d makes)) s)
  made_represents g x = listed_represents draft is_draft o links whole s a d some makes apart knows.0 list b knows.1.adds f g has (f, knows.1.reads, λ n p. refl) x

  -- ---- from a disk that is steady at the stanza

  module _ (steady : IsSteady (stanza_of draft) (Some s) a) where
    pub two_moves : EachImage (stanza_of draft) (λ g. Represents (stanza_of draft) g (Some s) ⊎ Represents (stanza_of draft) g (Some (changed (AddBackup (backup_made draft o links whole a d makes)) s))) a d
    two_moves = backup_moves draft is_draft o links whole s a d some makes apart knows.0 list b knows.1.adds steady (knows.1.mixes steady) (synced_of draft s a steady) one_list one_manifest

    pub made_steady : whole ≡ true → IsSteady (stanza_of draft) (Some (changed (AddBackup (backup_made draft o links whole a d makes)) s)) d
    made_steady is = backup_steady draft is_draft o links whole s a d some makes apart knows.0 list b knows.1.adds steady (knows.1.mixes steady) (synced_of draft s a steady) one_list one_manifest is
