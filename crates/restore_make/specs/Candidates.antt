-- Which files of the data folder are candidates, and which of them are kept, over what the calls are given. Own.
use Rattle.std.specs.Prelude.{ℕ, Bool, List, Result, IfErr, map}
use Rattle.base_devices.specs.Links.{LinkState}
use Rattle.base_devices.specs.declared.data_folder.FolderEntry.{FolderEntry}
use Rattle.base_model.specs.Text.{Text, In}
use Rattle.base_model.specs.Values.{FileEntry, file_entry_of}
use Rattle.base_model.specs.declared.files.FileEntry as rust_file
use Rattle.base_model.specs.declared.labels.Label.{Label}
use Rattle.worker_pool.specs.Pools.{links_in}
use Rattle.worker_pool.specs.declared.pool.Pool.{Pool}
use Rattle.restore_steps.specs.Clearing.{seen_of}
use Rattle.restore_make.specs.declared.candidates.Candidate.{Candidate}
use Rattle.restore_make.specs.declared.fault.FillFault.{FillFault}
use Rattle.restore_make.specs.declared.options.Recovery.{Recovery}
use Rattle.restore_make.specs.declared.options.RestoreOptions.{RestoreOptions}
use Rattle.restore_make.specs.Options.{recovery_of, options_of}
use Rattle.restore_make.specs.Kept.{AllAlike, MarksAlike}
use Rattle.restore_make.specs.Digested.{IsLike, IsCandidateBy, AddsCandidate, AreCandidates, HasCandidates}
use Rattle.restore_make.specs.Faults.{FillFails}

-- the candidate is the entry of this node
abbrev pub IsCandidateFor : Recovery → List rust_file.FileEntry → FolderEntry → Candidate → Type 0
IsCandidateFor recovery files node c =
    IsCandidateBy (recovery_of recovery) (map file_entry_of files) (seen_of node) c

-- the node is no entry's
abbrev pub IsNoCandidate : Recovery → List rust_file.FileEntry → FolderEntry → Type 0
IsNoCandidate recovery files node =
    (e : FileEntry) → In e (map file_entry_of files) → ¬ IsLike (recovery_of recovery) (seen_of node) e

-- the node's candidate was added, or the node is no entry's
abbrev pub AddsCandidateFor : Recovery → List rust_file.FileEntry → FolderEntry → List Candidate → List Candidate → Type 0
AddsCandidateFor recovery files node old new =
    AddsCandidate (recovery_of recovery) (map file_entry_of files) (seen_of node) old new

-- these are candidates of the listing
abbrev pub AreCandidatesFor : Recovery → List rust_file.FileEntry → List FolderEntry → List Candidate → Type 0
AreCandidatesFor recovery files seen cs =
    AreCandidates (recovery_of recovery) (map file_entry_of files) (map seen_of seen) cs

-- and no other is
abbrev pub HasCandidatesFor : Recovery → List rust_file.FileEntry → List FolderEntry → List Candidate → Type 0
HasCandidatesFor recovery files seen cs =
    HasCandidates (recovery_of recovery) (map file_entry_of files) (map seen_of seen) cs

-- why files of the data folder weren't digested: of no stanza, label or fault of the folder
abbrev pub DigestsFail : {A L S : Type 0} → Result A FillFault → List FileEntry → (L → LinkState) → Pool L S → Pool L S
    → Type 0
DigestsFail result es of old new = (stanza : Text) (own : Label) (f g : ℕ) → IfErr result
    (λ e. FillFails e stanza own es (links_in of old) (links_in of new) old.lost.items new.lost.items f g)

-- each entry with a mark may be kept
abbrev pub OnlyAlike : {L S : Type 0} → RestoreOptions → List rust_file.FileEntry → List FolderEntry → (L → LinkState)
    → Pool L S → List Bool → Type 0
OnlyAlike options files seen of pool marks =
    AllAlike (links_in of pool) (options_of options) (map seen_of seen) (map file_entry_of files) marks

-- each entry that is as the links' files are has one
abbrev pub EachAlike : {L S : Type 0} → RestoreOptions → List rust_file.FileEntry → List FolderEntry → (L → LinkState)
    → Pool L S → List Bool → Type 0
EachAlike options files seen of pool marks =
    MarksAlike (links_in of pool) (options_of options) (map seen_of seen) (map file_entry_of files) marks
