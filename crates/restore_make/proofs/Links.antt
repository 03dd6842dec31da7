-- What was read by links that are left.
use Rattle.std.proofs.Common.{List, Option, Some, None}
use Rattle.base_devices.specs.Links.{LinkState, Modelled}
use Rattle.base_model.specs.Text.{Text}
use Rattle.worker_protocol.specs.Frames.{Item}
use Rattle.worker_pool.specs.Reads.{ReadBy}
use Rattle.worker_pool.specs.Going.{IsSame}
use Rattle.worker_pool.specs.declared.dispatch.fault.Lost.{Lost as Entry}
use Rattle.worker_pool.specs.Left.{IsLeft}
use Rattle.worker_pool.proofs.Links.{reads_as}
use Rattle.restore_make.specs.Written.{IsReadOf}

-- what is read by a link that is left is read by one of the first
read_as_known : (a b : Option Modelled) (item : Item) (bytes : Text) → IsSame a b → ReadBy b item bytes → ReadBy a item bytes
read_as_known None b item bytes same r = tt
read_as_known (Some a) None item bytes same r = absurd same
read_as_known (Some a) (Some b) item bytes same r = λ tree repo reads. r tree repo (reads_as tree repo b a same.0 reads)

pub read_before : (links now : List LinkState) (before after : List Entry) (item : Item) (bytes : Text) → IsLeft links now before after → IsReadOf now item bytes → IsReadOf links item bytes
read_before links now before after item bytes left r =
    let x = left.each r.link r.from r.is in
    record { link = x.link; from = x.from; is = x.is; read = read_as_known x.from.known r.from.known item bytes x.same r.read }
