-- How far a counter of a zone may be off by what the zone's mark covers, passed on. Declares nothing.
pub use Rattle.vms_near.specs.Slack.{IsTold, ValuesTell, positive_carried, slack_at, slack_of}
