-- What a link counts. Own.
use Rattle.std.specs.Prelude.{◌≡◌}
use Rattle.adapters_process.specs.declared.workers.link.RealLink.{RealLink}

-- it has counted and been given no more
abbrev pub CountsTheSame : RealLink → RealLink → Type 0
CountsTheSame old new =
    (new.jobs ≡ old.jobs) × (new.reads ≡ old.reads) × (new.given ≡ old.given) × (new.faults ≡ old.faults)
