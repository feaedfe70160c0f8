-- Executing a run adds calls to a desk's history.
use Rattle.std.proofs.Common.{◌&&◌, Bool, true, false, List, Option, None, Some, sym, subst}
use Rattle.mpw_events.specs.History.{KeptDesk, IsHandled}
use Rattle.mpw_events.specs.GoingOn.{GoesOnTo}
use Rattle.mpw_events.specs.declared.event.Event.{Event}
use Rattle.mpw_events.specs.declared.event.Event.TheVariants as event
use Rattle.mpw_events.specs.declared.event.Response.{Response}
use Rattle.mpw_job.specs.Jobs.{CutWindows}
use Rattle.mpw_job.specs.declared.job.CutJob.{CutJob}
use Rattle.mpw_requests.specs.declared.request.Request.{Request}
use Rattle.mpw_serve.specs.Working.{CameOf, HandsOver, HandsTile, HandsTiles, WorksTiles, WorksCut, WorksOff, WorksWhere, WorksBehind, own_worker, is_begin, is_accepted}

module _
    (goes : (d left : KeptDesk) (e : Event) (r : Response) → IsHandled d e r left → GoesOnTo d left)
    (stays : (d : KeptDesk) → GoesOnTo d d)
    (on : (a b c : KeptDesk) → GoesOnTo a b → GoesOnTo b c → GoesOnTo a c)
  where
    came_on : (d : KeptDesk) (e : Event) (came : Option Response) (d' : KeptDesk)
        → CameOf d e came d' → GoesOnTo d d'
    came_on d e None d' is = subst (GoesOnTo d) (sym is) (stays d)
    came_on d e (Some r) d' is = goes d d' e r is

    over_on : (d : KeptDesk) (e : Event) (over : Bool) (d' : KeptDesk) → HandsOver d e over d'
        → GoesOnTo d d'
    over_on d e over d' is = came_on d e is.came d' is.handled

    tile_on : (d : KeptDesk) (tile : Event) (over : Bool) (d' : KeptDesk) → HandsTile d tile over d'
        → GoesOnTo d d'
    tile_on d tile over d' (HandsTile.uncalled near is) = over_on d (event.Take own_worker) true
        near is
    tile_on d tile over d' (HandsTile.handed ends near far is it) =
        on d near far (over_on d (event.Take own_worker) false near is)
        (over_on near tile ends far it)

    tiles_on : (d : KeptDesk) (tiles : List Event) (d' : KeptDesk) → HandsTiles d tiles d'
        → GoesOnTo d d'
    tiles_on d tiles d' (HandsTiles.none here) = stays here
    tiles_on d tiles d' (HandsTiles.last here tile rest near is) = tile_on here tile true near is
    tiles_on d tiles d' (HandsTiles.next here tile rest near far is more) =
        on here near far (tile_on here tile false near is) (tiles_on near rest far more)

    done_on : (d : KeptDesk) (a : CutWindows) (d' : KeptDesk) → WorksTiles d a d' → GoesOnTo d d'
    done_on d a d' WorksTiles.unworked = stays d
    done_on d a d' (WorksTiles.worked events near done handed) = tiles_on d events near handed

    cut_on : (d : KeptDesk) (job : CutJob) (d' : KeptDesk) → WorksCut d job d' → GoesOnTo d d'
    cut_on d job d' WorksCut.uncut = stays d
    cut_on d job d' (WorksCut.unkept a near is) = came_on d (event.Cut a) is.came near is.handled
    cut_on d job d' (WorksCut.kept a near far is tiles) =
        on d near far (came_on d (event.Cut a) is.came near is.handled) (done_on near a far tiles)

    off_on : (d d' : KeptDesk) → WorksOff d d' → GoesOnTo d d'
    off_on d d' (WorksOff.uncalled call near is without) = came_on d (event.Take own_worker) call
        near is
    off_on d d' (WorksOff.called call job near far is ends cut) =
        on d near far (came_on d (event.Take own_worker) call near is) (cut_on near job far cut)

    where_on : (works : Bool) (d d' : KeptDesk) → WorksWhere works d d' → GoesOnTo d d'
    where_on true d d' is = off_on d d' is
    where_on false d d' is = subst (GoesOnTo d) (sym is) (stays d)

    pub behind_on : (request : Request) (response : Response) (d d' : KeptDesk)
        → WorksBehind request response d d' → GoesOnTo d d'
    behind_on request response d d' is = where_on (is_begin request && is_accepted response) d d' is
