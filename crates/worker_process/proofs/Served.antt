-- Serving jobs, one after the other.
use Rattle.std.proofs.Common.{◌≡◌, ◌⊎◌, inl, inr, ℕ, suc, ◌+◌, ◌-◌, ◌<◌, ◌^◌, min, Bool, true, false, List, [], ◌∷◌, ◌++◌, length, map, Option, Some, None, Result, Ok, Err, refl, sym, ◌∙◌, ap, subst, arith, append_assoc}
use Rattle.std.specs.List.{flat_map, AllByRecursion}
use Rattle.std.proofs.lemmas.List.{append-nil, map-append, length-map, length-append}
use Rattle.std.proofs.lemmas.Grind.{flat_map-append}
use Rattle.base_devices.specs.Cause.{Rises}
use Rattle.base_devices.specs.Content.{Content}
use Rattle.base_model.specs.Text.{Text}
use Rattle.worker_process.specs.declared.job_reply.Opened.{Opened}
use Rattle.worker_protocol.specs.declared.frames.frames.Root.{Root}
use Rattle.worker_protocol.specs.declared.frames.frames.Root.TheVariants.{DataFolder, Repo}
use Rattle.worker_process.specs.declared.serve_fault.ServeFault.{ServeFault}
use Rattle.worker_process.specs.declared.serve_fault.ServeFault.TheVariants.{Form, TooLong, TooMany, Ended, Read, OutputStream, NoMemory}
use Rattle.worker_protocol.specs.Frames.{Roots, Job, Frame, FitsFrame, spell}
use Rattle.worker_protocol.specs.Frames.Frame.{Setup, Task}
use Rattle.worker_process.specs.Opening.{FailedRoot}
use Rattle.worker_process.specs.Writing.{IsWritten, IsPrefixWritten, IsOutputFault}
use Rattle.worker_process.specs.Receiving.{StopsAt, IsFullyReceived, IsNotOutput}
use Rattle.worker_process.specs.Answers.{AnswersJob, KnownJob}
use Rattle.worker_process.specs.Serving.{bytes_received, Counts, IsLater, Rose, AnswersAll, EndsAt, WroteAnswers, OpenedAt, Served, ServedNext, ServedJobs, JobsEnd, NotOpened}
use Rattle.worker_process.specs.Serving.Talk.{Silent, Received}
use Rattle.worker_process.proofs.Written.{none_written, nothing_written, whole_prefix, frames_more, frames_prefix}
use Rattle.worker_process.proofs.Received.{true_start}

abbrev IsNeither : ServeFault → Type 0
IsNeither OutputStream = ⊥
IsNeither NoMemory = ⊥
IsNeither other = Unit {0}

no_output : (e : ServeFault) → IsOutputFault e → IsNeither e → ⊥
no_output e (inl is) other = subst (λ (f : ServeFault). IsNeither f) is other
no_output e (inr is) other = subst (λ (f : ServeFault). IsNeither f) is other

-- ---- answers one after the other

job_for : (job : Job) (tree repo : Content) (Failed Also : Root → Type 0) (frames : List Frame) → ((root : Root) → Failed root → Also root) → AnswersJob job tree repo Failed frames → AnswersJob job tree repo Also frames
job_for job tree repo Failed Also frames f (inl is) = inl is
job_for job tree repo Failed Also frames f (inr b) = inr (record { past = b.past; item = b.item; later = b.later; items = b.items; reached = b.reached; own = b.own; stopped = b.stopped; is = b.is; failed = f b.item.root b.failed })

rose_from : (a b c : Counts) (root : Root) → IsLater a b → Rose b c root → Rose a c root
rose_from a b c DataFolder later rose = omega (arith, later.tree)
rose_from a b c Repo later rose = omega (arith, later.repo)

later_then : (a b c : Counts) → IsLater a b → IsLater b c → IsLater a c
later_then a b c x y = record { tree = omega (arith, x.tree, y.tree); repo = omega (arith, x.repo, y.repo) }

module _ (tree repo : Content) (Closed : Root → Type 0) (job : Job) (one : List Frame) (mid new : Counts) (later : IsLater mid new) (answers : AnswersJob job tree repo (λ root. Closed root ⊎ Rose mid new root) one) where
  job_from : (old : Counts) → IsLater old mid → AnswersJob job tree repo (λ root. Closed root ⊎ Rose old new root) one
  job_from old before = job_for job tree repo _ _ one f answers
    where
      f : (root : Root) → Closed root ⊎ Rose mid new root → Closed root ⊎ Rose old new root
      f root (inl closed) = inl closed
      f root (inr rose) = inr (rose_from old mid new root before rose)

  answers_more : (old : Counts) (jobs : List Job) (frames : List Frame) → AnswersAll tree repo Closed old mid jobs frames → AnswersAll tree repo Closed old new (jobs ++ job ∷ []) (frames ++ one)
  answers_more old [] frames (none, before) = (new, one, [], ap (λ (l : List Frame). l ++ one) none ∙ sym (append-nil one), later_then old mid new before later, job_from old before, (refl, record { tree = omega arith; repo = omega arith }))
  answers_more old (j ∷ jobs) frames (c, first, others, is, before, answered, rest) =
      (c, first, others ++ one, ap (λ (l : List Frame). l ++ one) is ∙ append_assoc first others one, before, answered, answers_more c jobs others rest)

-- ---- this many jobs are answered

abbrev pub Known : List Job → Text
Known jobs = flat_map spell (map Task jobs)

pub record Going (tree repo : Content) (Closed : Root → Type 0) (entry now : Counts) (start : ℕ) (input : Text) (count at : ℕ) (left : Option Text) (old written : Option Text) : Type 0 where
  pub jobs : List Job
  pub rest : Text
  pub received_reply : input ≡ Known jobs ++ rest
  pub fits : AllByRecursion FitsFrame (map Task jobs)
  pub answers : List Frame
  pub answered : AnswersAll tree repo Closed entry now jobs answers
  pub count_is : count ≡ length jobs
  pub at_is : at ≡ min (start + length (Known jobs)) (2 ^ 64 - 1)
  pub left_is : left ≡ Some rest
  pub wrote : IsWritten old (flat_map spell answers) written

pub going_start : (tree repo : Content) (Closed : Root → Type 0) (entry : Counts) (start : ℕ) (input : Text) (left old : Option Text) → start < 2 ^ 64 → left ≡ Some input → Going tree repo Closed entry entry start input 0 start left old old
going_start tree repo Closed entry start input left old small is = record {
  jobs = [];
  rest = input;
  received_reply = refl;
  fits = tt;
  answers = [];
  answered = (refl, record { tree = omega arith; repo = omega arith });
  count_is = refl;
  at_is = omega arith;
  left_is = is;
  wrote = none_written old;
}

failed_so : (opened : Opened) (mid new : Counts) (root : Root) → FailedRoot opened mid.tree mid.repo new.tree new.repo root → NotOpened opened root ⊎ Rose mid new root
failed_so opened mid new DataFolder f = f
failed_so opened mid new Repo f = f

known_more : (jobs : List Job) (job : Job) → Known (jobs ++ job ∷ []) ≡ Known jobs ++ spell (Task job)
known_more jobs job = ap (flat_map spell) (map-append Task jobs (job ∷ [])) ∙ flat_map-append spell (map Task jobs) (Task job ∷ []) ∙ ap (λ (t : Text). Known jobs ++ t) (append-nil (spell (Task job)))

fits_more : (jobs : List Job) (job : Job) → AllByRecursion FitsFrame (map Task jobs) → FitsFrame (Task job) → AllByRecursion FitsFrame (map Task (jobs ++ job ∷ []))
fits_more [] job fits one = (one, tt)
fits_more (j ∷ jobs) job fits one = (fits.0, fits_more jobs job fits.1 one)

count_more : (jobs : List Job) (job : Job) → length (jobs ++ job ∷ []) ≡ length jobs + 1
count_more jobs job = length-append jobs (job ∷ [])

module _ (tree repo : Content) (opened : Opened) (entry mid now : Counts) (start : ℕ) (input : Text) (count at : ℕ) (left : Option Text) (old written : Option Text)
    (g : Going tree repo (NotOpened opened) entry mid start input count at left old written) (later : IsLater mid now) where
  abbrev Failed : Root → Type 0
  Failed = FailedRoot opened mid.tree mid.repo now.tree now.repo

  abbrev answers_now : (job : Job) (one : List Frame) → AnswersJob job tree repo Failed one → AnswersAll tree repo (NotOpened opened) entry now (g.jobs ++ job ∷ []) (g.answers ++ one)
  answers_now job one a = answers_more tree repo (NotOpened opened) job one mid now later (job_for job tree repo Failed _ one (failed_so opened mid now) a) entry g.jobs g.answers g.answered

  received_now : (job : Job) (size : ℕ) (next : Option Text) (h : IsFullyReceived (Task job) size g.rest next) → input ≡ Known (g.jobs ++ job ∷ []) ++ h.later
  received_now job size next h =
      g.received_reply
      ∙ ap (λ (t : Text). Known g.jobs ++ t) h.prefix
      ∙ sym (append_assoc (Known g.jobs) (spell (Task job)) h.later)
      ∙ ap (λ (t : Text). t ++ h.later) (sym (known_more g.jobs job))

  pub going_more : (size next_at : ℕ) (next new : Option Text) → next_at ≡ min (at + size) (2 ^ 64 - 1) → ServedNext tree repo Failed at g.rest (Ok (Some size)) next written new → Going tree repo (NotOpened opened) entry now start input (count + 1) next_at next old new
  going_more size next_at next new at_now (job, h, known) = record {
    jobs = g.jobs ++ job ∷ [];
    rest = h.later;
    received_reply = received_now job size next h;
    fits = fits_more g.jobs job g.fits h.fits;
    answers = g.answers ++ known.frames;
    answered = answers_now job known.frames known.answers;
    count_is = omega (arith, g.count_is, count_more g.jobs job);
    at_is = omega (arith, at_now, g.at_is, h.size_is, ap length (known_more g.jobs job), length-append (Known g.jobs) (spell (Task job)));
    left_is = h.left_is;
    wrote = frames_more old written new g.answers known.frames g.wrote known.writes;
  }

  stayed : IsLater mid now → AnswersAll tree repo (NotOpened opened) entry now g.jobs g.answers
  stayed l = answers_stay entry g.jobs g.answers g.answered
    where
      answers_stay : (old : Counts) (jobs : List Job) (frames : List Frame) → AnswersAll tree repo (NotOpened opened) old mid jobs frames → AnswersAll tree repo (NotOpened opened) old now jobs frames
      answers_stay old [] frames (none, before) = (none, later_then old mid now before l)
      answers_stay old (j ∷ jobs) frames (c, first, others, is, before, answered, rest) = (c, first, others, is, before, answered, answers_stay c jobs others rest)

  pub going_over : (next new : Option Text) → ServedNext tree repo Failed at g.rest (Ok None) next written new → ServedJobs tree repo (NotOpened opened) entry now start input (Ok count) old new
  going_over next new (over, left_now, same) = record {
    jobs = g.jobs;
    rest = g.rest;
    received_reply = g.received_reply;
    fits = g.fits;
    answers = g.answers;
    answered = stayed later;
    ends = (over, g.count_is);
    wrote = same ∙ g.wrote;
  }

  -- a fault before the next job was received
  stopped_now : (fault : ServeFault) (new : Option Text) → StopsAt 74 at g.rest fault → new ≡ written → ServedJobs tree repo (NotOpened opened) entry now start input (Err fault) old new
  stopped_now fault new stops same = record {
    jobs = g.jobs;
    rest = g.rest;
    received_reply = g.received_reply;
    fits = g.fits;
    answers = g.answers;
    answered = stayed later;
    ends = end fault (true_start 74 (start + length (Known g.jobs)) at g.rest fault g.at_is stops);
    wrote = wrote fault (same ∙ g.wrote);
  }
    where
      end : (e : ServeFault) → StopsAt 74 (start + length (Known g.jobs)) g.rest e → JobsEnd (length g.jobs) (start + length (Known g.jobs)) g.rest (Err e)
      end (Form p) s = s
      end (TooLong n) s = s
      end (TooMany l) s = absurd s
      end (Ended p) s = s
      end Read s = s
      end OutputStream s = tt
      end NoMemory s = s

      wrote : (e : ServeFault) → IsWritten old (flat_map spell g.answers) new → WroteAnswers (Err e) old (flat_map spell g.answers) new
      wrote (Form p) w = w
      wrote (TooLong n) w = w
      wrote (TooMany l) w = w
      wrote (Ended p) w = w
      wrote Read w = w
      wrote OutputStream w = whole_prefix old new (flat_map spell g.answers) w
      wrote NoMemory w = whole_prefix old new (flat_map spell g.answers) w

  -- a fault while a job was answered
  broken_now : (fault : ServeFault) (job : Job) (size : ℕ) (next new : Option Text) (h : IsFullyReceived (Task job) size g.rest next) → KnownJob job tree repo Failed (Err fault) written new → IsOutputFault fault → ServedJobs tree repo (NotOpened opened) entry now start input (Err fault) old new
  broken_now fault job size next new h known output = record {
    jobs = g.jobs ++ job ∷ [];
    rest = h.later;
    received_reply = received_now job size next h;
    fits = fits_more g.jobs job g.fits h.fits;
    answers = g.answers ++ known.frames;
    answered = answers_now job known.frames known.answers;
    ends = end fault output;
    wrote = wrote fault output (frames_prefix old written new g.answers known.frames [] (g.answers ++ known.frames) (ap (λ (l : List Frame). g.answers ++ l) (sym (append-nil known.frames))) g.wrote known.writes);
  }
    where
      end : (e : ServeFault) → IsOutputFault e → JobsEnd (length (g.jobs ++ job ∷ [])) (start + length (Known (g.jobs ++ job ∷ []))) h.later (Err e)
      end OutputStream o = tt
      end NoMemory o = tt
      end (Form p) o = absurd (no_output (Form p) o tt)
      end (TooLong n) o = absurd (no_output (TooLong n) o tt)
      end (TooMany l) o = absurd (no_output (TooMany l) o tt)
      end (Ended p) o = absurd (no_output (Ended p) o tt)
      end Read o = absurd (no_output Read o tt)

      wrote : (e : ServeFault) → IsOutputFault e → IsPrefixWritten old (flat_map spell (g.answers ++ known.frames)) new → WroteAnswers (Err e) old (flat_map spell (g.answers ++ known.frames)) new
      wrote OutputStream o w = w
      wrote NoMemory o w = w
      wrote (Form p) o w = absurd (no_output (Form p) o tt)
      wrote (TooLong n) o w = absurd (no_output (TooLong n) o tt)
      wrote (TooMany l) o w = absurd (no_output (TooMany l) o tt)
      wrote (Ended p) o w = absurd (no_output (Ended p) o tt)
      wrote Read o w = absurd (no_output Read o tt)

  pub going_failed : (fault : ServeFault) (next new : Option Text) → ServedNext tree repo Failed at g.rest (Err fault) next written new → ServedJobs tree repo (NotOpened opened) entry now start input (Err fault) old new
  going_failed fault next new (inl (stops, same)) = stopped_now fault new stops same
  going_failed fault next new (inr (job, size, h, known, output)) = broken_now fault job size next new h known output

-- the input ended, or all the jobs that are taken were served
pub going_ended : (tree repo : Content) (opened : Opened) (entry now : Counts) (start : ℕ) (input : Text) (count at : ℕ) (left old written : Option Text) (result : Result ℕ ServeFault) (g : Going tree repo (NotOpened opened) entry now start input count at left old written)
    → ((begin : ℕ) → JobsEnd count begin g.rest result) → ServedJobs tree repo (NotOpened opened) entry now start input result old written
going_ended tree repo opened entry now start input count at left old written result g ends = record {
  jobs = g.jobs;
  rest = g.rest;
  received_reply = g.received_reply;
  fits = g.fits;
  answers = g.answers;
  answered = g.answered;
  ends = subst (λ (n : ℕ). JobsEnd n (start + length (Known g.jobs)) g.rest result) g.count_is (ends (start + length (Known g.jobs)));
  wrote = wrote result;
}
  where
    wrote : (r : Result ℕ ServeFault) → WroteAnswers r old (flat_map spell g.answers) written
    wrote (Ok n) = g.wrote
    wrote (Err (Form p)) = g.wrote
    wrote (Err (TooLong n)) = g.wrote
    wrote (Err (TooMany l)) = g.wrote
    wrote (Err (Ended p)) = g.wrote
    wrote (Err Read) = g.wrote
    wrote (Err OutputStream) = whole_prefix old written (flat_map spell g.answers) g.wrote
    wrote (Err NoMemory) = whole_prefix old written (flat_map spell g.answers) g.wrote

abbrev known_fault : ServeFault → Result (Option ℕ) ServeFault
known_fault e = Err e

same_fault : (e : ServeFault) → known_fault e ≡ known_fault OutputStream → e ≡ OutputStream
same_fault e is = cc

pub not_output : (P : Type 0) (e : ServeFault) → IsNotOutput e → known_fault e ≡ known_fault OutputStream → P
not_output P e quiet is = absurd (subst (λ (f : ServeFault). IsNotOutput f) (same_fault e is) quiet)

-- ---- from the setup on

answers_for : (tree repo : Content) (Closed Also : Root → Type 0) (old new : Counts) (jobs : List Job) (frames : List Frame) → ((root : Root) → Closed root → Also root) → AnswersAll tree repo Closed old new jobs frames → AnswersAll tree repo Also old new jobs frames
answers_for tree repo Closed Also old new [] frames f a = a
answers_for tree repo Closed Also old new (job ∷ jobs) frames f (mid, one, others, is, later, answered, rest) =
    (mid, one, others, is, later, job_for job tree repo _ _ one h answered, answers_for tree repo Closed Also mid new jobs others f rest)
  where
    h : (root : Root) → Closed root ⊎ Rose old mid root → Also root ⊎ Rose old mid root
    h root (inl closed) = inl (f root closed)
    h root (inr rose) = inr rose

pub same_counts : (entry : Counts) → IsLater entry entry
same_counts entry = record { tree = omega arith; repo = omega arith }

-- nothing was received
pub silent : (tree repo : Content) (input : Text) (entry exit : Counts) (tree_place repo_place : Text) (fault : ServeFault) (old : Option Text) → IsLater entry exit → StopsAt 83 0 input fault → Served tree repo input entry exit tree_place repo_place (Err fault) old old
silent tree repo input entry exit tree_place repo_place fault old later stops = record {
  talk = Silent;
  rest = input;
  answers = [];
  talked = record { received_reply = refl; fits = tt; opened = entry; later = same_counts entry; answered = (refl, later) };
  ends = end fault stops;
  wrote = wrote fault;
  places = tt;
}
  where
    end : (e : ServeFault) → StopsAt 83 0 input e → EndsAt Silent input (Err e)
    end (Form p) s = s
    end (TooLong n) s = s
    end (TooMany l) s = absurd s
    end (Ended p) s = s
    end Read s = s
    end OutputStream s = tt
    end NoMemory s = s

    wrote : (e : ServeFault) → WroteAnswers (Err e) old [] old
    wrote (Form p) = none_written old
    wrote (TooLong n) = none_written old
    wrote (TooMany l) = none_written old
    wrote (Ended p) = none_written old
    wrote Read = none_written old
    wrote OutputStream = nothing_written old
    wrote NoMemory = nothing_written old

pub silent_end : (tree repo : Content) (input : Text) (entry : Counts) (tree_place repo_place : Text) (old : Option Text) → input ≡ [] → Served tree repo input entry entry tree_place repo_place (Ok 0) old old
silent_end tree repo input entry tree_place repo_place old none = record {
  talk = Silent;
  rest = input;
  answers = [];
  talked = record { received_reply = refl; fits = tt; opened = entry; later = same_counts entry; answered = (refl, same_counts entry) };
  ends = (none, refl);
  wrote = none_written old;
  places = tt;
}

-- memory ran out while the roots were opened
pub not_opened : (tree repo : Content) (input : Text) (entry exit : Counts) (tree_place repo_place : Text) (roots : Roots) (size : ℕ) (left old : Option Text) → IsLater entry exit → IsFullyReceived (Setup roots) size input left → Served tree repo input entry exit tree_place repo_place (Err NoMemory) old old
not_opened tree repo input entry exit tree_place repo_place roots size left old later h = record {
  talk = Received roots [];
  rest = h.later;
  answers = [];
  talked = record { received_reply = h.prefix ∙ ap (λ (t : Text). t ++ h.later) (sym (append-nil (spell (Setup roots)))); fits = (h.fits, tt); opened = exit; later = later; answered = (refl, same_counts exit) };
  ends = tt;
  wrote = nothing_written old;
  places = tt;
}

module _ (tree repo : Content) (input : Text) (entry mid exit : Counts) (tree_place repo_place : Text) (roots : Roots) (opened : Opened) (size : ℕ) (left : Option Text) (result : Result ℕ ServeFault) (old new : Option Text) (before : IsLater entry mid) (after : IsLater mid exit) (h : IsFullyReceived (Setup roots) size input left)
    (tree_opened : opened.tree ≡ true → tree_place ≡ roots.tree) (repo_opened : opened.repo ≡ true → repo_place ≡ roots.repo) (tree_failed : opened.tree ≡ false → Rises entry.tree mid.tree) (repo_failed : opened.repo ≡ false → Rises entry.repo mid.repo)
    (s : ServedJobs tree repo (NotOpened opened) mid exit size h.later result old new) where
  closed_so : (root : Root) → NotOpened opened root → Rose entry mid root
  closed_so DataFolder closed = tree_failed closed
  closed_so Repo closed = repo_failed closed

  end_so : (r : Result ℕ ServeFault) (start : ℕ) → start ≡ length (bytes_received (Received roots s.jobs)) → JobsEnd (length s.jobs) start s.rest r → EndsAt (Received roots s.jobs) s.rest r
  end_so (Ok n) start is e = e
  end_so (Err (TooMany l)) start is e = (e.0, e.1, e.2 ∙ ap (λ (k : ℕ). suc k) (sym (length-map s.jobs Task)))
  end_so (Err OutputStream) start is e = tt
  end_so (Err (Form p)) start is e = subst (λ (k : ℕ). StopsAt 74 k s.rest (Form p)) is e
  end_so (Err (TooLong n)) start is e = e
  end_so (Err (Ended p)) start is e = subst (λ (k : ℕ). StopsAt 74 k s.rest (Ended p)) is e
  end_so (Err Read) start is e = tt
  end_so (Err NoMemory) start is e = tt

  placed : (jobs : List Job) → OpenedAt (Received roots jobs) entry exit tree_place repo_place
  placed [] = tt
  placed (job ∷ jobs) = (at_tree opened.tree refl, at_repo opened.repo refl)
    where
      at_tree : (b : Bool) → opened.tree ≡ b → (tree_place ≡ roots.tree) ⊎ Rises entry.tree exit.tree
      at_tree true is = inl (tree_opened is)
      at_tree false is = inr (omega (arith, tree_failed is, after.tree))

      at_repo : (b : Bool) → opened.repo ≡ b → (repo_place ≡ roots.repo) ⊎ Rises entry.repo exit.repo
      at_repo true is = inl (repo_opened is)
      at_repo false is = inr (omega (arith, repo_failed is, after.repo))

  pub served_so : Served tree repo input entry exit tree_place repo_place result old new
  served_so = record {
    talk = Received roots s.jobs;
    rest = s.rest;
    answers = s.answers;
    talked = record {
      received_reply = h.prefix ∙ ap (λ (t : Text). spell (Setup roots) ++ t) s.received_reply ∙ sym (append_assoc (spell (Setup roots)) (Known s.jobs) s.rest);
      fits = (h.fits, s.fits);
      opened = mid;
      later = before;
      answered = answers_for tree repo (NotOpened opened) (Rose entry mid) mid exit s.jobs s.answers closed_so s.answered;
    };
    ends = end_so result (size + length (Known s.jobs)) (omega (arith, h.size_is, length-append (spell (Setup roots)) (Known s.jobs))) s.ends;
    wrote = s.wrote;
    places = placed s.jobs;
  }
