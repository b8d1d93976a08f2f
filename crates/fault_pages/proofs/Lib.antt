mod FaultGroups
