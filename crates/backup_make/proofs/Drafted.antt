-- What a draft keeps of its jobs, their names and the result of them.
use Rattle.std.proofs.Common.{◌≡◌, ◌<◌, ◌≤◌, ◌-◌, ◌^◌, inl, inr, ℕ, zero, suc, List, [], ◌∷◌, length, map, get_or, Option, Some, None, refl, sym, ◌∙◌, ap, subst, arith, slice_get}
use Rattle.std.specs.Prelude.{All, IfSome, unwrap_or}
use Rattle.std.specs.List.{AllByRecursion}
use Rattle.base_devices.specs.Content.{Name, Content}
use Rattle.base_devices.specs.Links.{LinkState}
use Rattle.worker_protocol.specs.declared.frames.frames.Job as rust
use Rattle.worker_protocol.specs.Frames.{Job, FitsJob}
use Rattle.worker_protocol.specs.Views.{job_of}
use Rattle.base_model.specs.declared.labels.Label.{Label}
use Rattle.base_model.specs.Text.{In}
use Rattle.base_model.specs.InfoFiles.{IsLabel}
use Rattle.base_model.specs.ManifestText.{IsWalPart}
use Rattle.base_devices.specs.States.{last_second}
use Rattle.worker_pool.specs.Payloads.{AllByFile}
use Rattle.worker_pool.specs.Run.{AllDone}
use Rattle.backup_sink.specs.declared.keeper.EndedItem.{EndedItem}
use Rattle.backup_sink.specs.Keeping.{Progress, keeps as kept_in, total, Agrees, IsPlan}
use Rattle.backup_sink.proofs.Places.{placed, bytes_at}
use Rattle.backup_plan.specs.Listed.{Taken, control_path}
use Rattle.backup_plan.specs.Layout.{Layout, layout, jobs_of, bundles}
use Rattle.backup_plan.proofs.Fitting.{jobs_fit}
use Rattle.backup_plan.proofs.Lasts.{one_last}
use Rattle.backup_plan.proofs.Lists.{of_map}
use Rattle.backup_record.specs.Naming.{IsPlanned, names_in}
use Rattle.backup_record.specs.Bounds.{KeepsBounds, MayFollow}
use Rattle.backup_record.specs.Ends.{AreAllEnds, JobsCome}
use Rattle.worker_protocol.specs.PartSinkState.{JobItems}
use Rattle.backup_record.proofs.Following.{prior_label}
use Rattle.backup_record.proofs.Coming.{AreReads, jobs_read, jobs_few, bundles_few, came_jobs, keeps_bounds, totals_small}
use Rattle.backup_record.proofs.Held.{keeps_end}
use Rattle.backup_record.proofs.Naming.{names_count}
use Rattle.backup_record.proofs.Planned.{is_plan}
use Rattle.backup_make.specs.declared.draft.Draft.{Draft}
use Rattle.backup_make.specs.Draft.{stanza_of, taken_in, folders_in, old_in, jobs_in, list_in, folder_of, head_at, head_for, went_with, IsDraft}
use Rattle.backup_make.specs.Online.{Online, IsOnline, part_in}
use Rattle.backup_make.specs.Stored.{AreNames, Stored}
use Rattle.backup_make.proofs.Came.{jobs_came, received, known_of}

module _ (d : Draft) (h : IsDraft d) where
  abbrev pub laid_out : Layout
  laid_out = layout h.plan.settings (old_in d) (taken_in d) h.plan.equal

  pub one : length (layout h.plan.settings (old_in d) (taken_in d) h.plan.equal).last ≡ 1
  one = one_last h.plan.settings (old_in d) (taken_in d) h.plan.equal h.plan.same h.listing.file_order h.control

  pub planned : IsPlanned d.plan (layout h.plan.settings (old_in d) (taken_in d) h.plan.equal)
  planned = record { singles = h.plan.singles; jobs = h.plan.jobs; last = one }

  -- it may be listed, with the part of the log of a running server too
  pub follows_with : (o : Option Online) → IfSome o IsOnline → (stop : ℕ) → stop ≤ last_second → MayFollow (head_for d o stop) (list_in d)
  follows_with o is stop within =
      let f = h.follows stop within in
      record { label = f.label; later = f.later; prior = f.prior; listed = f.listed; start = f.start; stop = f.stop; cluster = f.cluster; wal = by o is }
    where
      by : (o : Option Online) → IfSome o IsOnline → IfSome (part_in o) IsWalPart
      by None x = tt
      by (Some y) x = x.part_is

  pub good_label : IsLabel d.label
  good_label = (h.follows 0 (omega arith)).label

  pub few_bundles : length (bundles (layout h.plan.settings (old_in d) (taken_in d) h.plan.equal)) < 2 ^ 32 - 1
  few_bundles = let a = bundles_few h.plan.settings (old_in d) (taken_in d) h.plan.equal in let b = h.few in omega (arith, a, b)

  pub few_jobs : length (jobs_in d) < 2 ^ 32
  few_jobs =
      let a = jobs_few h.plan.settings (old_in d) (taken_in d) h.plan.equal in
      let b = h.few in
      let c = one in
      let e = ap (λ (js : List Job). length js) h.plan.jobs in
      omega (arith, a, b, c, e)

  pub reads : AreReads (jobs_in d)
  reads = subst (λ (js : List Job). AreReads js) (sym h.plan.jobs) (jobs_read h.plan.settings (old_in d) (taken_in d) h.plan.equal)

  pub job_fits : (j : Job) → In j (jobs_in d) → FitsJob j
  job_fits j i = jobs_fit (taken_in d) (folders_in d) h.listing h.plan.settings (old_in d) h.plan.equal j (subst (λ (js : List Job). In j js) h.plan.jobs i)

  pub all_fit : All (λ (j : rust.Job). FitsJob (job_of j)) d.plan.jobs.items
  all_fit k x less = job_fits (job_of (get_or d.plan.jobs.items k x)) (in_jobs d.plan.jobs.items k x less)
    where
      in_jobs : (js : List rust.Job) (k : ℕ) (x : rust.Job) → k < length js → In (job_of (get_or js k x)) (map job_of js)
      in_jobs [] k x less = absurd (omega (arith, less))
      in_jobs (j ∷ js) zero x less = inl refl
      in_jobs (j ∷ js) (suc k) x less = inr (in_jobs js k x (omega (arith, less)))

  -- ---- the result of its jobs

  prior_rules : IsLabel (unwrap_or d.prior d.label)
  prior_rules = by d.prior (prior_label (head_at d 0) (list_in d) h.list (h.follows 0 (omega arith)))
    where
      by : (o : Option Label) → IfSome o IsLabel → IsLabel (unwrap_or o d.label)
      by None x = good_label
      by (Some l) x = x

  few_files : length (taken_in d) < 2 ^ 32 - 1
  few_files = let few = h.few in omega (arith, few)

  module _ (ends : List (List EndedItem)) (come : JobsCome (jobs_in d) ends) where
    laid_come : JobsCome (jobs_of (layout h.plan.settings (old_in d) (taken_in d) h.plan.equal)) ends
    laid_come = subst (λ (js : List Job). JobsCome js ends) h.plan.jobs come

    -- it may be recorded
    pub keeps : KeepsBounds (went_with d ends) (taken_in d) d.plan.choices.items
    keeps = subst (λ (cs : List _). KeepsBounds (went_with d ends) (taken_in d) cs) (sym h.plan.choices)
        (keeps_bounds (went_with d ends) h.plan.settings (taken_in d) h.plan.equal h.plan.same few_files h.listing.sizes h.plan.singles one laid_come prior_rules h.old_folders h.old)

    -- and the bytes of each job are few
    pub totals : AllByRecursion (λ (es : List EndedItem). total es < 2 ^ 64) ends
    totals = each ends (totals_small (went_with d ends) h.plan.settings (taken_in d) h.plan.equal h.plan.same few_files h.listing.sizes h.plan.singles one laid_come prior_rules h.old_folders h.old)
      where
        each : (ess : List (List EndedItem)) → ((j : ℕ) (es : List EndedItem) → slice_get ess j ≡ Some es → total es < 2 ^ 64) → AllByRecursion (λ (es : List EndedItem). total es < 2 ^ 64) ess
        each [] all = tt
        each (es ∷ ess) all = (all 0 es refl, each ess (λ j fs is. all (suc j) fs is))

  module _ (names : List Name) (are : AreNames d names) where
    pub names_is : names ≡ names_in (folder_of d) (layout h.plan.settings (old_in d) (taken_in d) h.plan.equal)
    names_is = are (layout h.plan.settings (old_in d) (taken_in d) h.plan.equal) planned

    pub names_plan : IsPlan (folder_of d) names
    names_plan =
        let r = of_map (λ (f : Taken). f.path) (taken_in d) control_path h.control in
        subst (λ (ns : List Name). IsPlan (folder_of d) ns) (sym names_is)
        (is_plan (stanza_of d) d.label h.plan.settings (old_in d) (taken_in d) (folders_in d) h.plan.equal h.listing.file_order h.listing.files r.0 r.1 few_bundles)

    pub names_same : length (jobs_in d) ≡ length names
    names_same = ap (λ (js : List Job). length js) h.plan.jobs ∙ sym (names_count (stanza_of d) d.label laid_out) ∙ ap (λ (ns : List Name). length ns) (sym names_is)

    -- as many as what is held of the jobs
    pub names_held : (ends : List (List EndedItem)) (kept : List JobItems) → AreAllEnds ends kept → JobsCome (jobs_in d) ends → length names ≡ length kept
    names_held ends kept are come = sym names_same ∙ sym (came_jobs (jobs_in d) ends come) ∙ ends_count ends kept are
      where
        ends_count : (es : List (List EndedItem)) (ks : List JobItems) → AreAllEnds es ks → length es ≡ length ks
        ends_count [] [] h = refl
        ends_count [] (k ∷ ks) h = absurd h
        ends_count (e ∷ es) [] h = absurd h
        ends_count (e ∷ es) (k ∷ ks) h = ap suc (ends_count es ks h.1)

    -- what the keeper says about the jobs
    module _ (links : List LinkState) (ps : List Progress) (now : Option Content) (count : length names ≡ length ps) (agree : Agrees names ps now) (done : AllDone (jobs_in d) links (kept_in names ps now)) (payload : AllByFile (jobs_in d) links (kept_in names ps now)) where
      kept_count : length (kept_in names ps now) ≡ length (jobs_in d)
      kept_count = by names ps count ∙ sym names_same
        where
          by : (ns : List Name) (qs : List Progress) → length ns ≡ length qs → length (kept_in ns qs now) ≡ length ns
          by [] qs same = refl
          by (n ∷ ns) [] same = absurd (omega (arith, same))
          by (n ∷ ns) (q ∷ qs) same = ap suc (by ns qs (omega (arith, same)))

      pub stored_as : Stored d links (map (λ (p : Progress). p.ended) ps) now
      stored_as = record {
        names = names;
        names_are = are;
        own = λ j n is. (names_plan.own j n is, names_plan.lasting j n is);
        kept = kept_in names ps now;
        received = done;
        payload = payload;
        are = keeps_end names ps now count;
        come = jobs_came (jobs_in d) links (kept_in names ps now) (map (λ (p : Progress). p.ended) ps) reads kept_count done (keeps_end names ps now count);
        got = λ known. received (jobs_in d) links (kept_in names ps now) reads kept_count done (known_of names ps now known);
        placed = λ known g has. placed (folder_of d) names ps now g known names_plan agree (record { stored = has });
        filled = λ known. bytes_at names ps now known agree;
      }
