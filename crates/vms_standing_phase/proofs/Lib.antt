mod StandingLanes
