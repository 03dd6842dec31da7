-- Which push the path names is decided by what the data folder has.
use Rattle.std.proofs.Common.{◌≡◌, ⊎_elim, inl, inr, ◌∷◌, ◌++◌, Option, Some, None, refl, sym, ◌∙◌, append_assoc}
use Rattle.std.specs.Prelude.{IsSome, IsSomeAnd, codes}
use Rattle.archive_store.proofs.PathLies.{wal_slash}
use Rattle.base_devices.specs.DataFolder.{Nodes, file_bytes}
use Rattle.base_model.specs.declared.wal.ArchiveName.{ArchiveName}
use Rattle.base_model.specs.Text.{Text}
use Rattle.base_model.specs.Names.{wal_text}
use Rattle.base_model.specs.Represents.{IsWalName}
use Rattle.base_model.specs.Steps.{Command, ArchivePush, Reading, Named}
use Rattle.cmd_archive_push.specs.WalPath.{wal_path, IsPathOf, IsLastElement, HasWal}
use Rattle.cmd_archive_push.specs.Commands.{IsPushOf}
use Rattle.run_archive_push.specs.Bounded.{Decided, SomeOrNone, same_text, either_of, both_of, some_name}

some_bytes : (o : Option Text) → SomeOrNone (λ (bytes : Text). o ≡ Some bytes)
some_bytes (Some b) = inl (b, refl)
some_bytes None = inr (λ b e. let u : ◌≡◌ {A = Option Text} None (Some b) = e in cc)

decided_bytes : (o : Option Text) → Decided ((bytes : Text) × (o ≡ Some bytes))
decided_bytes o = ⊎_elim (λ (x : (bytes : Text) × (o ≡ Some bytes)). inl x) (λ none. inr (λ x. none x.0 x.1))
    (some_bytes o)

last_of : (folder path : Text) (name : ArchiveName) → IsPathOf folder path (wal_text name)
    → IsLastElement path (wal_text name)
last_of folder path name (inl e) = (wal_slash name, inr (codes "pg_wal", e))
last_of folder path name (inr e) = (
  wal_slash name,
  inr (folder ++ codes "/pg_wal", e ∙ sym (append_assoc folder (codes "/pg_wal") (47 ∷ wal_text name))),
)

module _ (f : Nodes) (folder path : Text) where
  -- the path is that of this file, and the data folder has it
  abbrev Lies : ArchiveName → Type 0
  Lies name = IsPathOf folder path (wal_text name)
      × ((bytes : Text) × (file_bytes (f (wal_path (wal_text name))) ≡ Some bytes))

  lies : (name : ArchiveName) → Decided (Lies name)
  lies name = both_of (either_of (same_text path (wal_path (wal_text name)))
      (same_text path (folder ++ (codes "/pg_wal/" ++ wal_text name))))
      (decided_bytes (file_bytes (f (wal_path (wal_text name)))))

  has_wal : SomeOrNone (λ (n : Named). HasWal f folder path n.name n.bytes)
  has_wal = ⊎_elim
      (λ (x : (name : ArchiveName) × (IsWalName name × Lies name)).
      inl (
        record { name = x.0; bytes = x.1.1.1.0 },
        record {
          named = record { fits = x.1.0; last = last_of folder path x.0 x.1.1.0; lies = x.1.1.0 };
          is = x.1.1.1.1;
        },
      ))
      (λ none. inr (λ n h. none n.name (h.named.fits, (h.named.lies, (n.bytes, h.is))))) (some_name Lies lies)

  push_of : (command : Command) × IsPushOf f folder path command
  push_of = ⊎_elim
      (λ (x : (n : Named) × HasWal f folder path n.name n.bytes). (ArchivePush x.0, inl (x.0, x.1, refl)))
      (λ (none : (n : Named) → HasWal f folder path n.name n.bytes → ⊥). (Reading, inr (none, refl))) has_wal

-- where the data folder is known, one push is the one that it is
pub push_there : (folder path : Text) (o : Option Nodes) (P : Command → Type 0) → IsSome o
    → ((command : Command) → IsSomeAnd o (λ f. IsPushOf f folder path command) → P command)
    → (command : Command) × IsSomeAnd o (λ f. IsPushOf f folder path command) × P command
push_there folder path None P known on = cc
push_there folder path (Some f) P known on = let x = push_of f folder path in (x.0, x.1, on x.0 x.1)
