-- Why an item may be answered by `U` (own).
use Rattle.std.specs.Prelude.{◌≡◌, ◌⊎◌, ℕ, false}
use Rattle.base_devices.specs.Cause.{Rises}
use Rattle.worker_protocol.specs.declared.frames.frames.Root.{Root}
use Rattle.worker_protocol.specs.declared.frames.frames.Root.TheVariants.{DataFolder, Repo}
use Rattle.worker_process.specs.declared.job_reply.Opened.{Opened}

-- the root wasn't opened, or its count of faults rose
abbrev pub FailedRoot : Opened → ℕ → ℕ → ℕ → ℕ → Root → Type 0
FailedRoot opened tree repo tree_now repo_now DataFolder = (opened.tree ≡ false) ⊎ Rises tree tree_now
FailedRoot opened tree repo tree_now repo_now Repo = (opened.repo ≡ false) ⊎ Rises repo repo_now
