-- Jobs of one item each over a keeper in memory: how they end, and why they fail.
use Rattle.std.proofs.Common.{ℕ, ◌≡◌, refl, sym, ap, ◌∙◌, subst, arith, lit<, List, [], ◌∷◌, length, map, Option, Some, None, slice_get}
use Rattle.std.specs.Prelude.{IsSomeAnd}
use Rattle.std.proofs.lemmas.List.{length-map}
use Rattle.sha1.specs.Sha1.{sha1}
use Rattle.base_devices.specs.Links.{LinkState, Modelled}
use Rattle.base_model.specs.declared.labels.Label.{Label}
use Rattle.base_model.specs.Text.{Text}
use Rattle.base_model.specs.Values.{FileEntry}
use Rattle.worker_protocol.specs.declared.frames.frames.Root.TheVariants.{DataFolder, Repo}
use Rattle.worker_protocol.specs.Frames.{Item, Job, FitsJob}
use Rattle.worker_protocol.specs.declared.sinks.ItemEnd.{ItemEnd}
use Rattle.worker_pool.specs.Reads.{UnreadBy}
use Rattle.worker_pool.specs.Run.{JobsFault}
use Rattle.worker_pool.specs.declared.dispatch.fault.Lost.{Lost}
use Rattle.worker_pool.specs.declared.dispatch.fault.DispatchFault.{DispatchFault}
use Rattle.worker_pool.proofs.Going.{some_of, is_some_at}
use Rattle.worker_pool.specs.Digests.{AreDigests, IsEndBy, IsWhole, AreEnds as ReadItem}
use Rattle.worker_pool.proofs.Digests.{digested_as, whole_end}
use Rattle.restore_steps.proofs.Paths.{take_whole}
use Rattle.restore_steps.proofs.Listing.{map_get}
use Rattle.restore_steps.specs.Sources.{IsEntry, source}
use Rattle.restore_steps.proofs.Fitting.{fits_one}
use Rattle.restore_make.specs.declared.candidates.Candidate.{Candidate}
use Rattle.restore_make.specs.declared.fault.FillFault.{FillFault}
use Rattle.restore_make.specs.declared.fault.FillFault.TheVariants as faults
use Rattle.restore_make.specs.Kept.{in_folder, digesting}
use Rattle.restore_make.specs.Digested.{file_of, IsEndByFile, AreEnds, NamesCandidate}
use Rattle.restore_make.specs.Faults.{FillFails}
use Rattle.restore_make.proofs.Filled.{one_left, the_one, all_gone}
use Rattle.restore_make.proofs.ReadJobs.{at_in, in_at, got_map}

-- ---- the candidates' jobs

module _ (links : List LinkState) (cs : List Candidate) (jobs : List Job) (jobs_are : jobs ≡ map digesting (map file_of cs)) (ends : List (Option ItemEnd)) (are : ReadItem links jobs ends) where
  job_at : (k : ℕ) (c : Candidate) → slice_get cs k ≡ Some c → slice_get jobs k ≡ Some (digesting (file_of c))
  job_at k c is = ap (λ (l : List Job). slice_get l k) jobs_are ∙ map_get digesting (map file_of cs) k (file_of c) (map_get file_of cs k c is)

  end_at : (k : ℕ) (c : Candidate) → slice_get cs k ≡ Some c → (end : Option ItemEnd) × (slice_get ends k ≡ Some end) × IsSomeAnd end (IsEndBy links (in_folder (file_of c)))
  end_at k c is = some_of (λ (end : Option ItemEnd). IsSomeAnd end (IsEndBy links (in_folder (file_of c)))) (slice_get ends k) (are.each k (in_folder (file_of c)) (job_at k c is))

  pub are_ends : AreEnds links cs ends
  are_ends = record {
    known = λ k c end is end_is number sum whole.
        let x = end_at k c is in
        let h : ◌≡◌ {A = Option (Option ItemEnd)} (Some x.0) (Some end) = sym x.1 ∙ end_is in
        let same : x.0 ≡ end = cc in
        digested_as links (in_folder (file_of c)) number sum end (subst (λ (o : Option ItemEnd). IsSomeAnd o (IsEndBy links (in_folder (file_of c)))) same x.2) whole;
    each = λ k c is.
        let x = end_at k c is in
        is_some_at (IsEndByFile links (file_of c)) (slice_get ends k) x.0 x.1
        (λ tree repo read bytes there are_of.
        let e = file_of c in
        let y = whole_end tree repo links read (in_folder e) bytes x.0 x.2 there (take_whole bytes e.size are_of.0) in
        subst (λ (t : Text). IsWhole x.0 e.size t) are_of.1 (subst (λ (n : ℕ). IsWhole x.0 n (sha1 bytes)) are_of.0 y));
  }

pub digest_count : (cs : List Candidate) (jobs : List Job) → jobs ≡ map digesting (map file_of cs) → length jobs ≡ length cs
digest_count cs jobs are = ap (λ (l : List Job). length l) are ∙ length-map (map file_of cs) digesting ∙ length-map cs file_of

pub digest_each : (cs : List Candidate) (jobs : List Job) → jobs ≡ map digesting (map file_of cs) → (k : ℕ) (c : Candidate) (j : Job) → slice_get cs k ≡ Some c → slice_get jobs k ≡ Some j → j.items ≡ in_folder (file_of c) ∷ []
digest_each cs jobs are k c j at_k at_j =
    let h : ◌≡◌ {A = Option Job} (Some (digesting (file_of c))) (Some j) = sym (ap (λ (l : List Job). slice_get l k) are ∙ map_get digesting (map file_of cs) k (file_of c) (map_get file_of cs k c at_k)) ∙ at_j in
    let same : digesting (file_of c) ≡ j = cc in
    ap (λ (x : Job). x.items) (sym same)

-- each digests one file
pub are_digests : (cs : List Candidate) (jobs : List Job) → jobs ≡ map digesting (map file_of cs) → AreDigests jobs
are_digests cs jobs are j i =
    let k = at_in jobs j i in
    let e = got_map digesting (map file_of cs) k.0 j (ap (λ (l : List Job). slice_get l k.0) (sym are) ∙ k.1) in
    (in_folder e.0, sym e.2)

-- an entry's job may be sent
pub fits_digest : (e : FileEntry) → IsEntry e → FitsJob (digesting e)
fits_digest e is = let short = is.1.path.short in fits_one (digesting e) (in_folder e) refl (record { path = is.1.path; at = lit< tt; size = is.1.size }) (omega (arith, short))

-- ---- faults

no_repo : DataFolder ≡ Repo → ⊥
no_repo e = cc

-- no link that reads some files couldn't read one of the data folder
pub never_unread : (t : Option Modelled) (e : FileEntry) (item : Item) → UnreadBy t (in_folder e) → UnreadBy t item
never_unread None e item h = tt
never_unread (Some t) e item h = λ tree repo reads. absurd (no_repo (h tree repo reads).0)

module _ (stanza : Text) (own : Label) (links : List LinkState) (cs : List Candidate) (jobs : List Job) (item : FileEntry → Item)
    (each : (k : ℕ) (c : Candidate) (j : Job) → slice_get cs k ≡ Some c → slice_get jobs k ≡ Some j → j.items ≡ item (file_of c) ∷ [])
    (unread : (t : Option Modelled) (e : FileEntry) → UnreadBy t (item e) → UnreadBy t (source stanza own e)) where
  pub held_fails : (left : List LinkState) (before after : List Lost) (old new f g : ℕ) (fault : DispatchFault) (e : FillFault) → JobsFault jobs fault links before after old new left → NamesCandidate cs fault e → FillFails e stanza own (map file_of cs) links left before after f g
  held_fails left before after old new f g fault (faults.FileDamaged path known found) h names = absurd names
  held_fails left before after old new f g fault faults.WorkersLost h names = all_gone jobs links before after (subst (λ (x : DispatchFault). JobsFault jobs x links before after old new left) names h)
  held_fails left before after old new f g fault (faults.Unread path) h names =
      let leaves = subst (λ (x : DispatchFault). JobsFault jobs x links before after old new left) names.3 h in
      let entry = file_of names.2 in
      record {
        entry = entry;
        listed = in_at (map file_of cs) names.0 entry (map_get file_of cs names.0 names.2 names.4);
        path_is = names.5;
        now = leaves.now;
        is = one_left left leaves.now leaves.is;
        given = leaves.given;
        link = leaves.link;
        from = leaves.from;
        from_is = leaves.from_is;
        unread = unread leaves.from.known entry (the_one (item entry) leaves.from.known leaves.job.items names.1 (each names.0 names.2 leaves.job names.4 leaves.job_is) leaves.within leaves.unread);
      }
  held_fails left before after old new f g fault faults.DataFolder h names = absurd names
  held_fails left before after old new f g fault faults.NoMemory h names = tt
