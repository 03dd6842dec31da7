-- What the rules of a retention are to a stanza that a disk has.
use Rattle.std.proofs.Common.{◌≡◌, inl, inr, ℕ, List, [], ◌∷◌, ◌++◌, Option, Some, None, refl, ap, ap₂, ◌∙◌, sym, subst, true}
use Rattle.std.specs.Prelude.{IfSome, option_map}
use Rattle.base_devices.specs.Content.{Content}
use Rattle.base_model.specs.declared.clusters.Cluster.{Cluster}
use Rattle.base_model.specs.declared.wal.Segment.{Segment}
use Rattle.base_model.specs.declared.wal.WalPart.{WalPart}
use Rattle.base_model.specs.declared.wal.ArchiveId.{ArchiveId}
use Rattle.base_model.specs.declared.wal.ArchiveName.{ArchiveName}
use Rattle.base_model.specs.declared.wal.ArchiveName.TheVariants.{Segment as Whole}
use Rattle.base_model.specs.Text.{Text, In}
use Rattle.base_model.specs.Names.{backup_info, manifest_name}
use Rattle.base_model.specs.InfoFiles.{IsSegment}
use Rattle.base_model.specs.Values.{Manifest}
use Rattle.base_model.specs.ManifestText.{IsWalPart, IsManifestText}
use Rattle.base_model.specs.Pair.{PairIs}
use Rattle.base_model.specs.Repository.{Archived, Backup, Stanza, id_of, current_number, IsSound, IsSoundStanza, IsSoundBackup, AreSound, IsWithinSpan}
use Rattle.base_model.specs.Represents.{Represents, HasStanza, IsWalName, backup_value}
use Rattle.base_model.specs.Steps.{Step, Condemn, IsPartOf, changed, after, expiry_moves}
use Rattle.base_model.specs.Log.{IsDone}
use Rattle.repo_stanza.proofs.OneBackup.{backup_rules}
use Rattle.expire_rules.specs.declared.rules.Rules.{Rules}
use Rattle.expire_rules.specs.Condemned.{is_condemned}
use Rattle.expire_rules.specs.Needed.{keeping_of, keeps_file}
use Rattle.expire_make.specs.Expiry.{listed, retention, HasNeeded}
use Rattle.expire_rules.proofs.Lists.{in_filter}
use Rattle.repo_keys.proofs.Numbers.{in_map}
use Rattle.expire_make.proofs.Leaving.{entries_of}
use Rattle.expire_rules.specs.Descent.{AreInLine}
use Rattle.expire_rules.proofs.Closed.{condemned_closed}
use Rattle.expire_make.proofs.Proper.{proper}
use Rattle.expire_make.proofs.CondemnedRepresents.{IsClosed}
use Rattle.expire_make.proofs.Within.{within_span, span_kept}
use Rattle.expire_make.proofs.Needs.{has_needed}
use Rattle.expire_make.proofs.Sound.{NeedsSegments, expiry_sound}

-- a backup that is sound after some others
sound_in : (s : Stanza) (earlier bs : List Backup) (b : Backup) → AreSound s earlier bs → In b bs → (before : List Backup) × IsSoundBackup s before b
sound_in s earlier [] b h at = absurd at
sound_in s earlier (x ∷ bs) b h (inl same) = (earlier, subst (λ (y : Backup). IsSoundBackup s earlier y) (sym same) h.0)
sound_in s earlier (x ∷ bs) b h (inr i) = sound_in s (earlier ++ x ∷ []) bs b h.1 i

module _ (stanza : Text) (rules : Rules) (now : ℕ) (f : Content) (s : Stanza) (h : HasStanza stanza f s) where
  -- the listed backups are in order
  pub are_proper : AreInLine (listed s)
  are_proper = subst AreInLine (entries_of s h.pending) (proper (backup_value s h.pending) (backup_rules f (backup_info stanza) (backup_value s h.pending) h.backup_pair))

  pub closed_here : IsClosed s (is_condemned rules now (listed s))
  closed_here b at l prior on = condemned_closed rules now (listed s) are_proper b.entry (in_map (λ (x : Backup). x.entry) s.backups b at) l prior on

  abbrev left : Stanza
  left = changed (Condemn (is_condemned rules now (listed s))) s

  of_it : (b : Backup) → In b left.backups → In b s.backups
  of_it b at = (in_filter _ b s.backups at).0

  part_of : (b : Backup) → In b s.backups → (w : WalPart) → b.wal ≡ Some w → IsWalPart w
  part_of b at w is = let x = h.manifests b at in some_part x.0 (rules_of x.0 (manifest_name stanza b.entry.label) x.1) (x.2.wal ∙ is)
    where
      rules_of : (m : Manifest) (name : Text) → PairIs IsManifestText f name m → IfSome m.wal IsWalPart
      rules_of m name (inl r) = r.2.rules.wal
      rules_of m name (inr q) = q.1.2.rules.wal

      some_part : (m : Manifest) → IfSome m.wal IsWalPart → m.wal ≡ Some w → IsWalPart w
      some_part m h e = let at : IfSome (Some w) IsWalPart = subst (λ (o : Option WalPart). IfSome o IsWalPart) e h in at

  segment_of : (a : Archived) → In a s.archived → (segment : Segment) → a.name ≡ Whole segment → IsSegment segment
  segment_of a at segment is = let fits : IsWalName (Whole segment) = subst IsWalName is (h.named a at).fits in fits

  abbrev Needs : Backup → WalPart → Type 0
  Needs b w = (segment : Segment) (c : Cluster) → In c s.history → c.id ≡ b.entry.db → IsWithinSpan w.size.0 w.span segment → (a : Archived) → In a s.archived → a.id ≡ id_of c → a.name ≡ Whole segment → (retention rules now).needed left a ≡ true

  pub needs_here : IsSoundStanza s → NeedsSegments ((retention rules now).needed left) left
  needs_here sound b at = by b.wal refl
    where
      by : (o : Option WalPart) → b.wal ≡ o → IfSome o (Needs b)
      by None e = tt
      by (Some w) e = λ segment c in_c db within a i id name.
          let own = sound_in s [] s.backups b sound.backups (of_it b at) in
          let span : b.entry.span ≡ Some w.span = own.1.span ∙ ap (λ (o : Option WalPart). option_map (λ (w : WalPart). w.span) o) e in
          let inside = within_span w segment (part_of b (of_it b at) w e) (segment_of a i segment name) within in
          let number : b.entry.db ≡ a.id.number = sym (ap (λ (k : ArchiveId). k.number) id ∙ db) in
          subst (λ (k : ArchiveName). keeps_file (keeping_of rules (current_number left) (listed left) a.id.number) k ≡ true) (sym name)
          (subst (λ (n : ℕ). keeps_file (keeping_of rules (current_number left) (listed left) n) (Whole segment) ≡ true) number
          (span_kept rules (current_number left) (listed left) b.entry w.span segment (in_map (λ (x : Backup). x.entry) left.backups b at) span inside))

  alike : (a b : Archived) → a.id ≡ b.id → a.name ≡ b.name → (retention rules now).needed left a ≡ (retention rules now).needed left b
  alike a b id name = ap₂ (λ (i : ArchiveId) (n : ArchiveName). keeps_file (keeping_of rules (current_number left) (listed left) i.number) n) id name

  -- all that an expiry leads to is sound
  pub sound_here : IsSoundStanza s → (whole : _) (done : List Step) → IsDone whole done (expiry_moves (retention rules now) s) → IsSound (after (Some s) done)
  sound_here sound whole done is = expiry_sound (retention rules now) s closed_here alike (λ a i. h.named a i) (needs_here sound) sound whole done is

  -- what it leaves has all that stays
  pub needed_here : (g : Content) (done : List Step) → IsPartOf done (expiry_moves (retention rules now) s) → Represents stanza g (after (Some s) done) → HasNeeded stanza (retention rules now) s g
  needed_here g done is has = has_needed stanza (retention rules now) s g alike (λ a i. h.named a i) done is has
