-- What the code tells of a worker's doing.
use Rattle.walkx.specs.declared.operation.Activity.{Activity}
use Rattle.walkx.specs.declared.operation.Activity.TheVariants as activity
use Rattle.walkx.specs.Doing.{Doing}
use Rattle.walkx.specs.Doing as doing

abbrev pub activity_of : Doing → Activity
activity_of doing.Back = activity.Back
activity_of doing.Begin = activity.Begin
activity_of (doing.Turn phase) = activity.Turn phase
activity_of (doing.Part phase rank) = activity.Part phase rank
activity_of (doing.Over end) = activity.Over end
