-- That workers can be handed in is a proposition: it holds in one way at most.
use Rattle.std.specs.Prelude.{◌≡◌, List, [], Option, Some, None, IfSome}
use Rattle.std.proofs.Props.{props}
use Rattle.base_devices.specs.Content.{Content}
use Rattle.base_devices.specs.Links.{LinkState, Modelled}
use Rattle.worker_pool.specs.Reads.{Reads}
use Rattle.cmd_trait.specs.Code.{AreWorkers}

quiet_prop : (o : Option Modelled) → IsProp
    (IfSome o (λ (t : Modelled). (tree repo : Content) → Reads tree repo t → t.pending ≡ []))
quiet_prop None = hlevel props
quiet_prop (Some t) = hlevel props

-- links are those of workers in one way alone
pub AreWorkers-prop : (links : List LinkState) → IsProp (AreWorkers links)
AreWorkers-prop links = hlevel (props, quiet_prop)
